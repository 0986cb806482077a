use Rattle.std.proofs.Common.{◌≡◌, ◌+◌, ◌*◌}
use Rattle.jxlm_bits.specs.Bits.{bytes_of, position_of}
use Rattle.jxl_codestream.proofs.toc.room.Given as goal

abbrev pub invariant-loop : goal.invariant-loop
invariant-loop l = record {
  bytes : bytes_of l.after ≡ bytes_of l.bits;
  position : position_of l.after ≡ position_of l.bits + 12 * l.counter;
}
