use Rattle.std.proofs.Common.{false}
use Rattle.jxlm_bit_writer.proofs.WriteLaws.{none_repeated}
use Rattle.jxl_image_header.specs.Channels.{extra_channel}
use Rattle.jxl_image_header.specs.declared.channel.ExtraChannelKind.TheVariants.{Alpha}
use Rattle.jxl_image_header_write.proofs.ChannelSpellings.{channel_by, depth_by, channel_at, channels_next, channels_all}
use Rattle.jxl_image_header_write.proofs.channel.write_channels.Goals as goal

pub loop-channel-init : goal.loop-channel-init
loop-channel-init c = none_repeated extra_channel c.args.bits.now

pub write_channel-requires : goal.write_channel-requires
write_channel-requires c = channel_at c.args.channels.now c.loop-channel.channel-index (channel_by Alpha (depth_by 0 0) 0 0 false) c.requires c.loop-channel-test.true

pub loop-channel-preserved : goal.loop-channel-preserved
loop-channel-preserved c =
    channels_next c.args.channels.now c.loop-channel.channel-index (channel_by Alpha (depth_by 0 0) 0 0 false) c.args.bits.now c.loop-channel.bits c.write_channel.new.bits c.loop-channel-test.true
    c.loop-channel.invariant c.in_ok-write_channel.ensures

pub returns : goal.returns
returns c =
    channels_all c.args.channels.now c.loop-channel.channel-index c.args.bits.now c.loop-channel.bits c.loop-channel-test.false c.loop-channel.auto.channel-index-end c.loop-channel.invariant
