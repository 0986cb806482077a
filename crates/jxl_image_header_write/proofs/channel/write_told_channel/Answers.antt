use Rattle.std.proofs.Common.{sym, ◌∙◌}
use Rattle.jxl_image_header_write.proofs.ChannelSpellings.{channel_parts, told_channel}
use Rattle.jxl_image_header_write.proofs.channel.write_told_channel.Goals as goal

pub write_depth-requires : goal.write_depth-requires
write_depth-requires c = (channel_parts c.args.channel c.requires).depth

pub write_u32-requires-clause-spelled : goal.write_u32-requires-clause-spelled
write_u32-requires-clause-spelled c = (channel_parts c.args.channel c.requires).shift

pub write_flag_if-requires : goal.write_flag_if-requires
write_flag_if-requires c = record { usual = λ e. (channel_parts c.args.channel c.requires).associated (sym c.is_alpha.ensures ∙ e) }

pub returns : goal.returns
returns c =
    told_channel c.args.channel c.kind_number.result c.args.bits.now c.write_flag.new.bits c.write_enum_if.new.bits c.write_depth.new.bits c.write_u32.new.bits c.write_no_name.new.bits
    c.write_flag_if.new.bits (channel_parts c.args.channel c.requires) c.kind_number.ensures.meant c.in_ok-write_flag.ensures c.in_ok-write_enum_if.ensures c.in_ok-write_depth.ensures c.in_ok-write_u32.ensures
    c.in_ok-write_no_name.ensures (rw c.is_alpha.ensures at c.in_ok-write_flag_if.ensures)
