use Rattle.std.proofs.Common.{refl}
use Rattle.jxlm_bits.proofs.BitsLemmas.{bits_at-bound, bits_at-digit, bits_at-join, bits_at-byte}
use Rattle.jxlm_bits.proofs.bit_laws.numbers_of_bits.Goals as goal

pub returns : goal.returns
returns c = record {
  below = bits_at-bound;
  digits = bits_at-digit;
  joined = bits_at-join;
  byte = λ bytes i. bits_at-byte bytes i 8 refl;
}
