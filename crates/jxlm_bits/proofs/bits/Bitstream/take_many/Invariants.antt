use Rattle.std.proofs.Common.{◌≡◌, ℕ, ◌+◌, ◌*◌, ◌<◌, length, slice_index}
use Rattle.jxlm_bits.specs.Bits.{bytes_of, position_of, bits_at}
use Rattle.jxlm_bits.proofs.bits.Bitstream.take_many.Given as goal

abbrev pub invariant-loop-k : goal.invariant-loop-k
invariant-loop-k l = record {
  len : length l.numbers ≡ length l.fn.numbers;
  at : l.at ≡ l.fn.self.bit + l.n * l.k;
  values : (j : ℕ) → j < l.k → slice_index l.numbers j ≡ bits_at (bytes_of l.fn.self) (position_of l.fn.self + l.n * j) l.n;
}
