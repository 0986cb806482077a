use Rattle.jxl_frame_header_write.proofs.StillSpellings.{pass_spelled}
use Rattle.jxl_frame_header_write.proofs.still.write_one_pass.Goals as goal

pub returns : goal.returns
returns c = pass_spelled c.args.bits.now c.write_u32.new.bits c.in_ok-write_u32.ensures
