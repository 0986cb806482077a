use Rattle.std.proofs.Common.{pos}
use Rattle.std.specs.Option.{option_copied}
use Rattle.jxlm_groups.specs.Passes.{passes_of}
use Rattle.jxl_modular.specs.Image.{image_grids}
use Rattle.jxl_lossless.proofs.Stills.{whole_decoded}
use Rattle.jxl_lossless.proofs.still.decode.decode_all.Goals as goal

pub returns-in-Ok-clause-ok : goal.returns-in-Ok-clause-ok
returns-in-Ok-clause-ok g c =
    whole_decoded g.D.Decoder.meaning g.S.Sealed.width g.S.Sealed.to_int (g.S.Sealed.from_int (pos 0)) c.args.image.now (passes_of c.args.passes.now.entries) (option_copied c.args.global) c.args.sections.now c.in-Ok.whole
    (image_grids g.S.Sealed.to_int c.decode_sections_with.new.image) c.args.steps.now c.decode_sections_with.new.steps c.requires.complete c.in-Ok.ensures.left c.in-Ok.ensures.decoded
