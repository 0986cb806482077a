use Rattle.std.proofs.Common.{ℕ, ◌*◌, List, length, ap, ◌∙◌, sym}
use Rattle.std.proofs.Math.Nat.{mul_assoc}
use Rattle.jxl_image_header.specs.Images.{image_of}
use Rattle.jxl_netpbm.specs.Formats.{tuple_count}
use Rattle.jxl_netpbm.specs.Rasters.{Layer}
use Rattle.jxl_interleave.specs.Pixels.{number_len}
use Rattle.jxl_interleave.proofs.PixelLaws.{layer_count}
use Rattle.jxl_interleave.proofs.pixels.interleave.Goals as goal

pub put_rows-requires-clause-long : goal.put_rows-requires-clause-long
put_rows-requires-clause-long c =
    let image = image_of c.args.picture.now.header in
    let count = ap (λ (ls : List Layer). length ls) c.pixel_layers-layers.ensures.are ∙ layer_count image c.args.picture.now.channels.items c.requires.whole in
    c.requires.long ∙ mul_assoc image.size.height image.size.width (tuple_count image * number_len c.args.depth) ∙ ap (λ (n : ℕ). image.size.height * (image.size.width * (n * number_len c.args.depth))) (sym count)
