use Rattle.std.specs.Fmt.{HasWritten, IsPlainFormatter}
use Rattle.std.specs.List.{flat_map}
use Rattle.jxl_command.specs.Shown.{letter_text}
use Rattle.jxl_command.proofs.shown.write_shown.Given as goal

abbrev pub invariant-loop-c : goal.invariant-loop-c
invariant-loop-c g l = IsPlainFormatter {W = g.row.W.Denot} l.initial.f → HasWritten {W = g.row.W.Denot} g.W.Write.write_str_gives l.initial.f (flat_map letter_text l.yielded) l.f
