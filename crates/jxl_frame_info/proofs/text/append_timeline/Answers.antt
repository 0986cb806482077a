use Rattle.std.proofs.Common.{length, string_bytes, codes}
use Rattle.std.specs.Fmt.{decimal}
use Rattle.jxl_frame_info.specs.Lines.{timeline_lines}
use Rattle.jxl_frame_info.proofs.TextPieces.{line_of_two, two}
use Rattle.jxl_frame_info.proofs.text.append_timeline.Goals as goal

pub returns-in_ok-append_frames : goal.returns-in_ok-append_frames
unfolding timeline_lines
returns-in_ok-append_frames c =
    let s = string_bytes c.args.text.now in
    let t = string_bytes c.writeln.new.self in
    rw c.in-Some.is
    (two s t (string_bytes c.append_frames.new.text) _ _
    (line_of_two s t (codes "num_frames: ") (decimal (length c.args.durations.now)) c.in_ok-writeln.ensures.bytes) c.in_ok-append_frames.ensures)
