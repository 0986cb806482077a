use Rattle.jxl_frame_header_write.proofs.StillSpellings.{one_spelled}
use Rattle.jxl_frame_header_write.proofs.still.write_one.Goals as goal

pub returns : goal.returns
returns c = one_spelled c.args.bits.now c.write_u32.new.bits c.in_ok-write_u32.ensures
