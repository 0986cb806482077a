use Rattle.std.proofs.Common.{◌≡◌, ℕ, ◌≤◌, List, length, slice_index}
use Rattle.jxlm_bits.specs.Bits.{bytes_of, position_of}
use Rattle.jxlm_bits.specs.Decoding.{TakesTokens}
use Rattle.jxlm_plain.specs.Plain.{code_of, plain_read}
use Rattle.jxlm_plain.specs.declared.plain.Code.{Code}
use Rattle.jxlm_plain.proofs.PlainGives.{state}
use Rattle.jxlm_plain.proofs.plain.each_token.Given as goal

abbrev pub invariant-loop-k : goal.invariant-loop-k
invariant-loop-k l = record {
  len : length l.tokens ≡ length l.fn.tokens;
  tokens : (codes : List Code) (clusters : List ℕ) (c m : ℕ) → l.code ≡ code_of codes c →
      TakesTokens (λ u p. plain_read u (bytes_of l.fn.bits) p c m) l.tokens (state l.fn.mode codes clusters) (position_of l.fn.bits) l.k (state l.mode codes clusters) (position_of l.bits);
  rest : (j : ℕ) → l.k ≤ j → slice_index l.tokens j ≡ slice_index l.fn.tokens j;
  bytes : bytes_of l.bits ≡ bytes_of l.fn.bits;
}
