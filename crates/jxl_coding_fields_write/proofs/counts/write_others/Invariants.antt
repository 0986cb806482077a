use Rattle.std.proofs.Common.{[], take, slice_set}
use Rattle.jxl_coding_codes.specs.Distributions.{counts_step}
use Rattle.jxl_coding_codes.specs.Reading.{steps}
use Rattle.jxlm_bit_writer.specs.Writes.{Writes}
use Rattle.jxl_coding_fields_write.specs.CountWidths.{count_widths}
use Rattle.jxl_coding_fields_write.proofs.counts.write_others.Given as goal

abbrev pub invariant-loop-i : goal.invariant-loop-i
invariant-loop-i l = Writes l.fn.bits l.bits (steps (counts_step 13 (count_widths l.counts)) l.i []) (take l.i (slice_set l.counts l.widest 0))
