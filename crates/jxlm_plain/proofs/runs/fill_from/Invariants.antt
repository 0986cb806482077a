use Rattle.std.proofs.Common.{◌≡◌, ◌<◌, ◌≤◌, ℕ, length, slice_index}
use Rattle.jxlm_plain.proofs.runs.fill_from.Given as goal

abbrev pub invariant-loop-k : goal.invariant-loop-k
invariant-loop-k l = record {
  many : length l.tokens ≡ length l.fn.tokens;
  filled : (j : ℕ) → l.from ≤ j → j < l.k → slice_index l.tokens j ≡ l.token;
  kept : (j : ℕ) → j < l.from → slice_index l.tokens j ≡ slice_index l.fn.tokens j;
}
