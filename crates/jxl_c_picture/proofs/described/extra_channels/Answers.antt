use Rattle.std.proofs.Common.{refl, arith}
use Rattle.jxl_c_picture.proofs.Descriptions.{one_more_extra}
use Rattle.jxl_c_picture.proofs.described.extra_channels.Goals as goal

pub loop-channel-preserved : goal.loop-channel-preserved
loop-channel-preserved c =
    one_more_extra c.args.extra.now c.loop-channel.channels.items c.push.new.self.items c.loop-channel.channel-index _ _ c.in-Some.found (omega (arith, c.loop-channel-test.true, c.loop-channel.auto.channel-index-end)) refl c.in-Some.ensures.names
    c.loop-channel.invariant c.in_ok-push.ensures.items
