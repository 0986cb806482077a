use Rattle.std.proofs.Common.{take, true}
use Rattle.jxlm_bits.specs.Grammar.{repeated}
use Rattle.jxlm_bit_writer.specs.Writes.{Spells}
use Rattle.jxl_frame_header.specs.Blendings.{blending_info}
use Rattle.jxl_frame_header_write.proofs.blending.write_blendings.Given as goal

abbrev pub invariant-loop-info : goal.invariant-loop-info
invariant-loop-info l = Spells l.fn.bits l.bits (repeated l.info-index (blending_info true l.extra l.partial)) (take l.info-index l.infos)
