use Rattle.std.proofs.Common.{◌≡◌}
use Rattle.jxlm_bits.specs.Bits.{bytes_of, position_of}
use Rattle.jxl_coding_codes.proofs.CodewordBits.{LeftAfter}
use Rattle.jxl_coding_codes.proofs.codeword.codeword_ahead.Given as goal

abbrev pub invariant-loop-shorter : goal.invariant-loop-shorter
invariant-loop-shorter l = record {
  bytes : bytes_of l.bits ≡ bytes_of l.fn.bits;
  position : position_of l.bits ≡ position_of l.fn.bits;
  left : LeftAfter l.counts l.symbols l.start (bytes_of l.fn.bits) (position_of l.fn.bits) l.shorter l.code l.place;
}
