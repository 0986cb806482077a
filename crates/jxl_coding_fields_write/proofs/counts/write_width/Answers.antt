use Rattle.jxlm_bit_writer.specs.Written.{digits}
use Rattle.jxl_coding_fields_write.proofs.ReadingLaws.{placed}
use Rattle.jxl_coding_fields_write.proofs.counts.write_width.Goals as goal

pub returns : goal.returns
returns c = placed c.args.bits.now c.put.new.self (digits c.code_of-value.result.1 c.code_of-value.result.0) c.code_of-value.ensures.stands c.in_ok-put.ensures
