use Rattle.std.proofs.Common.{◌≡◌, ◌+◌, ◌-◌, ◌≤◌, arith}
use Rattle.jxl_frame_header.specs.Frames.{frame_of, frame_size}
use Rattle.jxl_picture.specs.Limits.{cells_of}
use Rattle.jxl_frame_info.proofs.timeline.Source.used_with.Goals as goal

pub overflow_add-before : goal.overflow_add-before
overflow_add-before c =
    let x = c.args.self in
    let size = x.image.now.size in
    let own = frame_size size (frame_of c.args.front.now.header) in
    let is : c.spare_cells.result ≡ cells_of size - cells_of own = c.spare_cells.ensures in
    let within : c.args.used + (cells_of size - cells_of own) + cells_of own ≤ x.limits.pixels = c.requires.within in
    omega (arith, is, within)
