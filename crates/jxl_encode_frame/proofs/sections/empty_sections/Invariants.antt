use Rattle.std.proofs.Common.{◌≡◌, length}
use Rattle.jxl_encode_frame.proofs.sections.empty_sections.Given as goal

abbrev pub invariant-loop : goal.invariant-loop
invariant-loop l = length l.sections.items ≡ l.counter
