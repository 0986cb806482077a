use Rattle.jxl_image_header_write.proofs.ColourSpellings.{exponent_spelled}
use Rattle.jxl_image_header_write.proofs.colour.write_exponent.Goals as goal

pub returns : goal.returns
returns c = exponent_spelled c.args.exponent c.args.bits.now c.write_flag.new.bits c.write_number.new.bits c.requires c.in_ok-write_flag.ensures c.in_ok-write_number.ensures
