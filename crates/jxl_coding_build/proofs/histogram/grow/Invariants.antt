use Rattle.std.proofs.Common.{◌≡◌, ℕ, ◌≤◌, ◌+◌, length, slice_index}
use Rattle.std.specs.List.{sum}
use Rattle.jxl_coding_build.proofs.histogram.grow.Given as goal

abbrev pub invariant-loop : goal.invariant-loop
invariant-loop l = record {
  many : length l.counts.items ≡ length l.initial.counts.items + l.counter;
  total : sum l.counts.items ≡ sum l.initial.counts.items;
  keeps : (s : ℕ) → slice_index l.initial.counts.items s ≤ slice_index l.counts.items s;
}
