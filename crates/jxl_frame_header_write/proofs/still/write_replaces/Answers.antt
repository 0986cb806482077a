use Rattle.jxl_frame_header_write.proofs.StillSpellings.{replaces_spelled}
use Rattle.jxl_frame_header_write.proofs.still.write_replaces.Goals as goal

pub returns : goal.returns
returns c = replaces_spelled c.args.extra c.args.bits.now c.write_u32.new.bits c.in_ok-write_u32.ensures
