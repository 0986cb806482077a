use Rattle.std.proofs.Common.{◌≡◌, ◌++◌, take, string_bytes}
use Rattle.jxl_frame_info.specs.Lines.{frame_lines}
use Rattle.jxl_frame_info.proofs.text.append_frames.Given as goal

abbrev pub invariant-loop-number : goal.invariant-loop-number
invariant-loop-number l = string_bytes l.text ≡ string_bytes l.initial.text ++ frame_lines l.animation (take l.number l.durations)
