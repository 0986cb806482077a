use Rattle.std.proofs.Common.{◌≡◌, nat_le}
use Rattle.std.specs.List.{list_all}
use Rattle.jxlm_groups.specs.Passes.{passes_of}
use Rattle.jxlm_groups.proofs.pass.has_valid_numbers.Given as goal

abbrev pub invariant-loop-number : goal.invariant-loop-number
invariant-loop-number l = list_all (λ p. nat_le p.number 255) (passes_of l.pass_shifts.entries) ≡ list_all (λ p. nat_le p.number 255) (passes_of l.number-iterator)
