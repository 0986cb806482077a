use Rattle.std.proofs.Common.{◌≡◌, ◌≤◌, take}
use Rattle.std.specs.Prelude.{nat_lt, count_by}
use Rattle.jxl_coding_build.proofs.normalise.used_of.Given as goal

abbrev pub invariant-loop-count : goal.invariant-loop-count
invariant-loop-count l = record { many : l.used ≡ count_by (λ c. nat_lt 0 c) (take l.count-index l.counts); few : l.used ≤ l.count-index }
