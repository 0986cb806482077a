use Rattle.std.proofs.Common.{◌≡◌, ◌+◌, ◌-◌, ◌≤◌, arith}
use Rattle.jxl_frame_header.specs.Frames.{frame_of, frame_size}
use Rattle.jxl_picture.specs.Limits.{cells_of}
use Rattle.jxl_animation.proofs.frames.FrameDecoder.used_with.Goals as goal

pub overflow_add-used : goal.overflow_add-used
overflow_add-used c =
    let x = c.args.self.now in
    let size = x.source.image.size in
    let own = frame_size size (frame_of c.args.front.now.header) in
    let is : c.spare_cells.result ≡ cells_of size - cells_of own = c.spare_cells.ensures in
    let within : x.used + (cells_of size - cells_of own) + cells_of own ≤ x.source.limits.pixels = c.requires.within in
    omega (arith, is, within)
