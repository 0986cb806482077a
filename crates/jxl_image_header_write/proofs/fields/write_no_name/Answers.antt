use Rattle.jxl_image_header_write.proofs.Spellings.{name_none}
use Rattle.jxl_image_header_write.proofs.fields.write_no_name.Goals as goal

pub returns : goal.returns
returns c = name_none c.args.bits.now c.write_u32.new.bits c.write_number.new.bits c.in_ok-write_u32.ensures c.in_ok-write_number.ensures
