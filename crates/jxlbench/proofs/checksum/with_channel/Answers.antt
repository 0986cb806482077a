use Rattle.jxlbench.proofs.Sums.{channel_more}
use Rattle.jxlbench.proofs.checksum.with_channel.Goals as goal

pub loop-y-preserved : goal.loop-y-preserved
loop-y-preserved g c =
    channel_more g.S.Sealed.to_int _ c.loop-y.sum c.with_row-sum.result c.args.channel.now c.loop-y.y c.get_row.result.now c.get_row.ensures.value c.loop-y.invariant c.with_row-sum.ensures
