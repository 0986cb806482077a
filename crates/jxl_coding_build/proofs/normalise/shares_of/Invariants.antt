use Rattle.std.proofs.Common.{◌≡◌, ℕ, ◌+◌, ◌*◌, ◌<◌, ◌≤◌, length, take, slice_index}
use Rattle.std.specs.Prelude.{nat_lt, count_by}
use Rattle.std.specs.List.{sum}
use Rattle.jxl_coding_build.proofs.normalise.shares_of.Given as goal

abbrev pub invariant-loop-count : goal.invariant-loop-count
invariant-loop-count l = record {
  many : length l.shares.items ≡ l.count-index;
  none : (k : ℕ) → k < l.count-index → slice_index l.counts k ≡ 0 → slice_index l.shares.items k ≡ 0;
  occurs : (k : ℕ) → k < l.count-index → 0 < slice_index l.counts k → 0 < slice_index l.shares.items k;
  most : sum l.shares.items * l.total ≤ count_by (λ c. nat_lt 0 c) (take l.count-index l.counts) * l.total + sum (take l.count-index l.counts) * l.room;
}
