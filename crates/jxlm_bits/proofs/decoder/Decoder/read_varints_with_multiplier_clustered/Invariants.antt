use Rattle.std.proofs.Common.{◌≡◌, ℕ, ◌≤◌, Contains, length, slice_index}
use Rattle.jxlm_bits.specs.Bits.{bytes_of, position_of}
use Rattle.jxlm_bits.specs.Decoding.{TakesTokens}
use Rattle.jxlm_bits.proofs.decoder.Decoder.read_varints_with_multiplier_clustered.Given as goal

abbrev pub invariant-loop-k : goal.invariant-loop-k
invariant-loop-k g l = record {
  known : Contains (g.Self.Decoder.meaning.cluster_map l.self) l.cluster;
  len : length l.tokens ≡ length l.fn.tokens;
  tokens : TakesTokens (λ s p. g.Self.Decoder.meaning.read s (bytes_of l.fn.bits) p l.cluster l.multiplier) l.tokens l.fn.self (position_of l.fn.bits) l.k l.self (position_of l.bits);
  rest : (j : ℕ) → l.k ≤ j → slice_index l.tokens j ≡ slice_index l.fn.tokens j;
  bytes : bytes_of l.bits ≡ bytes_of l.fn.bits;
}
