use Rattle.std.proofs.Common.{◌≡◌, ◌∙◌, ◌+◌, ◌*◌, ◌≤◌, length, arith, refl}
use Rattle.std.proofs.Math.Nat.{mul-le-mul_left}
use Rattle.jxl_image_header.specs.Images.{image_of}
use Rattle.jxl_picture.specs.Limits.{cells_of, channel_count}
use Rattle.jxl_codestream.proofs.frame.tree_limits.Goals as goal

pub overflow_add-samples : goal.overflow_add-samples
overflow_add-samples c =
    let pixels : c.args.used + cells_of c.args.size ≤ c.args.limits.pixels = c.requires.allowed.2 in
    let cells : c.cells_of.result ≡ cells_of c.args.size = c.cells_of.ensures in
    rw cells (omega (arith, pixels))

pub overflow_mul-samples : goal.overflow_mul-samples
overflow_mul-samples c =
    let image = image_of c.args.image.now in
    let extra : c.len.result ≡ length c.args.image.now.ec_info.items = c.len.ensures ∙ c.args.image.now.ec_info.ok.0 in
    let count : c.colours.result + c.len.result ≡ channel_count image = rw (c.colours.ensures, extra) refl in
    let cells : c.cells_of.result ≡ cells_of c.args.size = c.cells_of.ensures in
    let bytes : (c.args.used + cells_of c.args.size) * (4 * channel_count image) ≤ c.args.limits.bytes = c.requires.allowed.3 in
    let more : (c.args.used + cells_of c.args.size) * channel_count image ≤ (c.args.used + cells_of c.args.size) * (4 * channel_count image) =
    mul-le-mul_left {m = channel_count image} {n = 4 * channel_count image} (c.args.used + cells_of c.args.size) (omega arith) in
    rw (cells, count) (omega (arith, bytes, more))
