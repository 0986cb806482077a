use Rattle.jxlbench.proofs.Sums.{image_more}
use Rattle.jxlbench.proofs.checksum.checksum.Goals as goal

pub loop-channel-preserved : goal.loop-channel-preserved
loop-channel-preserved g c =
    image_more g.S.Sealed.to_int _ c.loop-channel.sum c.with_channel-sum.result c.args.channels.now c.loop-channel.channel-index c.channel-item.result c.loop-channel-test.true
    c.channel-item.is c.loop-channel.invariant c.with_channel-sum.ensures
