use Rattle.std.proofs.Common.{◌≡◌}
use Rattle.std.specs.List.{list_any}
use Rattle.jxlm_groups.specs.Passes.{holds, passes_of}
use Rattle.jxlm_groups.proofs.pass.has_pass_with.Given as goal

abbrev pub invariant-loop-shifts : goal.invariant-loop-shifts
invariant-loop-shifts l = list_any (holds l.shift) (passes_of l.pass_shifts.entries) ≡ list_any (holds l.shift) (passes_of l.shifts-iterator)
