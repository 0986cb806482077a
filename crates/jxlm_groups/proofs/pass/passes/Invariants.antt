use Rattle.std.proofs.Common.{◌≡◌, ◌++◌}
use Rattle.jxlm_groups.specs.Passes.{passes_of}
use Rattle.jxlm_groups.proofs.pass.passes.Given as goal

abbrev pub invariant-loop-number : goal.invariant-loop-number
invariant-loop-number l = l.passes.items ++ passes_of l.number-iterator ≡ passes_of l.pass_shifts.entries
