use Rattle.std.proofs.Common.{take}
use Rattle.jxlm_bits.specs.Grammar.{repeated}
use Rattle.jxlm_bit_writer.specs.Writes.{Spells}
use Rattle.jxl_codestream_write.proofs.Sizes.{entry}
use Rattle.jxl_codestream_write.proofs.toc.write_sizes.Given as goal

abbrev pub invariant-loop-size : goal.invariant-loop-size
invariant-loop-size l = Spells l.fn.bits l.bits (repeated l.size-index entry) (take l.size-index l.sizes)
