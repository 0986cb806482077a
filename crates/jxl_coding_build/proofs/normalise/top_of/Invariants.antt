use Rattle.std.proofs.Common.{ℕ, ◌<◌, ◌≤◌, length, slice_index}
use Rattle.jxl_coding_build.proofs.normalise.top_of.Given as goal

abbrev pub invariant-loop-i : goal.invariant-loop-i
invariant-loop-i l = record { inside : l.top < length l.counts; most : (k : ℕ) → k < l.i → slice_index l.counts k ≤ slice_index l.counts l.top }
