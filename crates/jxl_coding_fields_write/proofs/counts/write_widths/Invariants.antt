use Rattle.std.proofs.Common.{length, take}
use Rattle.jxl_coding_codes.specs.Distributions.{widths_step, no_widths}
use Rattle.jxl_coding_codes.specs.Reading.{steps}
use Rattle.jxlm_bit_writer.specs.Writes.{Writes}
use Rattle.jxl_coding_fields_write.specs.CountWidths.{count_widths}
use Rattle.jxl_coding_fields_write.proofs.counts.write_widths.Given as goal

abbrev pub invariant-loop-count : goal.invariant-loop-count
invariant-loop-count l = Writes l.fn.bits l.bits (steps (widths_step (length l.counts)) l.count-index no_widths) (count_widths (take l.count-index l.counts))
