use Rattle.jxl_coding_fields_write.proofs.NumberFields.{number_writes}
use Rattle.jxl_coding_fields_write.proofs.fields.write_number.Goals as goal

pub returns : goal.returns
returns c = number_writes c.args.n c.args.value c.args.bits.now c.put.new.self c.requires.fits c.in_ok-put.ensures
