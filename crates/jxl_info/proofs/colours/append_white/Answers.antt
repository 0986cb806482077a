use Rattle.std.proofs.Common.{string_bytes, codes}
use Rattle.jxl_info.specs.Colours.{point_text, white_text}
use Rattle.jxl_info.proofs.TextPieces.{two}
use Rattle.jxl_info.proofs.colours.append_white.Goals as goal

pub returns-in_ok-append_point-in-Custom : goal.returns-in_ok-append_point-in-Custom
unfolding white_text
returns-in_ok-append_point-in-Custom c =
    let s = string_bytes c.args.text.now in
    rw c.in-Custom.is (two s (string_bytes c.write-in-Custom.new.self) (string_bytes c.append_point.new.text) (codes "Custom, white_point") (point_text c.in-Custom.point)
    c.in_ok-write-in-Custom.ensures.bytes c.in_ok-append_point-in-Custom.ensures)
