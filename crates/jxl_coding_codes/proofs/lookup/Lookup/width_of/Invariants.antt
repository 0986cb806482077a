use Rattle.std.proofs.Common.{◌≤◌}
use Rattle.jxl_coding_codes.proofs.lookup.Lookup.width_of.Given as goal

abbrev pub invariant-loop-shorter : goal.invariant-loop-shorter
invariant-loop-shorter l = l.width ≤ 9
