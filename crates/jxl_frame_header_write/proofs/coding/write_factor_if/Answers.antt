use Rattle.jxl_frame_header_write.proofs.CodingSpellings.{factor_spelled}
use Rattle.jxl_frame_header_write.proofs.coding.write_factor_if.Goals as goal

pub returns : goal.returns
returns c = factor_spelled c.args.present c.args.value c.args.bits.now c.write_field_if.new.bits c.in_ok-write_field_if.ensures
