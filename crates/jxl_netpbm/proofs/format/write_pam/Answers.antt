use Rattle.std.proofs.Common.{◌≡◌, ◌∙◌, ap, subst, List, sym}
use Rattle.jxl_image_header.specs.Images.{image_of}
use Rattle.jxl_netpbm.specs.Formats.{pam_layers}
use Rattle.jxl_netpbm.specs.Rasters.{Layer}
use Rattle.jxl_netpbm.specs.Layers.{layers_of}
use Rattle.std.specs.List.{All}
use Rattle.jxl_netpbm.proofs.LayerLaws.{Cover, covers_held, pam_covers}
use Rattle.jxl_netpbm.proofs.Writing.{begun_none, on_err}
use Rattle.jxl_netpbm.proofs.format.write_pam.Goals as goal

pub returns-in_err-head-clause-err : goal.returns-in_err-head-clause-err
returns-in_err-head-clause-err g c = on_err c.from_residual-in_err-head.result _ (begun_none _ _)

pub write_numbers-requires-clause-within : goal.write_numbers-requires-clause-within
write_numbers-requires-clause-within g c =
    let image = image_of c.args.picture.now.header in
    let same : layers_of c.deref.result.now ≡ pam_layers image c.args.picture.now.channels.items = ap layers_of c.deref.ensures.value ∙ c.in_ok-layers.ensures in
    covers_held image.size.width image.size.height c.deref.result.now
    (subst (λ (ls : List Layer). All (Cover image.size.width image.size.height) ls) (sym same) (pam_covers image c.args.picture.now.channels.items c.requires.whole c.requires.suits))
