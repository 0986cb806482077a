use Rattle.std.proofs.Common.{replicate}
use Rattle.jxlm_bits.specs.Grammar.{repeated}
use Rattle.jxlm_bit_writer.specs.Writes.{Spells}
use Rattle.jxl_frame_header.specs.Codings.{factor}
use Rattle.jxl_frame_header_write.proofs.still.write_ones.Given as goal

abbrev pub invariant-loop : goal.invariant-loop
invariant-loop l = Spells l.fn.bits l.bits (repeated l.counter factor) (replicate l.counter 1)
