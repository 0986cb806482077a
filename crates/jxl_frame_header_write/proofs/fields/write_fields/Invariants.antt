use Rattle.std.proofs.Common.{take}
use Rattle.jxlm_bits.specs.Grammar.{repeated, u32}
use Rattle.jxlm_bit_writer.specs.Writes.{Spells}
use Rattle.jxl_frame_header_write.proofs.fields.write_fields.Given as goal

abbrev pub invariant-loop-value : goal.invariant-loop-value
invariant-loop-value l = Spells l.fn.bits l.bits (repeated l.value-index (u32 l.d0 l.d1 l.d2 l.d3)) (take l.value-index l.values)
