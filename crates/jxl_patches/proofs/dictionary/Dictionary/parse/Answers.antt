use Rattle.jxlm_bits.specs.Bits.{bytes_of, position_of}
use Rattle.jxl_patches.specs.SavedParts.{sizes_in}
use Rattle.jxl_patches.proofs.Bounding.{cells_bounded}
use Rattle.jxl_patches.proofs.Fitting.{patches_fit}
use Rattle.jxl_patches.proofs.PatchLaws.{exact-dictionary}
use Rattle.jxl_patches.proofs.dictionary.Dictionary.parse.Goals as goal

pub returns-clause-fits : goal.returns-clause-fits
returns-clause-fits g c =
    let d = g.D.Decoder.meaning in
    let bytes = bytes_of c.args.bits.now in
    let p = position_of c.args.bits.now in
    let exact = exact-dictionary d c.args.size c.args.extra (sizes_in c.args.slots.now) c.args.limit in
    patches_fit d c.args.size c.args.extra (sizes_in c.args.slots.now) c.args.limit bytes p _ _ (exact.read_stands bytes p _ c.in_ok-dictionary.ensures.gives)

pub returns-clause-bounded : goal.returns-clause-bounded
returns-clause-bounded g c =
    let d = g.D.Decoder.meaning in
    let bytes = bytes_of c.args.bits.now in
    let p = position_of c.args.bits.now in
    let exact = exact-dictionary d c.args.size c.args.extra (sizes_in c.args.slots.now) c.args.limit in
    cells_bounded d c.args.size c.args.extra (sizes_in c.args.slots.now) c.args.limit bytes p _ _ (exact.read_stands bytes p _ c.in_ok-dictionary.ensures.gives)
