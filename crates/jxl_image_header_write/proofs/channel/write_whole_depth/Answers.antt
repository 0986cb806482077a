use Rattle.jxl_image_header_write.proofs.ChannelSpellings.{whole_parts, whole_depth}
use Rattle.jxl_image_header_write.proofs.channel.write_whole_depth.Goals as goal

pub write_u32-requires-clause-spelled : goal.write_u32-requires-clause-spelled
write_u32-requires-clause-spelled c = (whole_parts c.args.depth c.requires.whole c.requires.spelled).0

pub returns : goal.returns
returns c =
    whole_depth c.args.depth c.args.bits.now c.write_flag.new.bits c.write_u32.new.bits c.requires.whole (whole_parts c.args.depth c.requires.whole c.requires.spelled).1 c.in_ok-write_flag.ensures c.in_ok-write_u32.ensures
