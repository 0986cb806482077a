use Rattle.std.proofs.Common.{replicate, true, false}
use Rattle.jxlm_bits.specs.Grammar.{repeated}
use Rattle.jxlm_bit_writer.specs.Writes.{Spells}
use Rattle.jxl_frame_header.specs.Blendings.{blending_info}
use Rattle.jxl_frame_header_write.specs.Stills.{replaces}
use Rattle.jxl_frame_header_write.proofs.still.write_all_replace.Given as goal

abbrev pub invariant-loop : goal.invariant-loop
invariant-loop l = Spells l.fn.bits l.bits (repeated l.counter (blending_info true l.extra false)) (replicate l.counter replaces)
