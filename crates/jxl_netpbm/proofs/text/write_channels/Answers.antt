use Rattle.jxl_netpbm.proofs.Lines.{less_channel, wrote_channel}
use Rattle.jxl_netpbm.proofs.Writing.{on_err}
use Rattle.jxl_netpbm.proofs.text.write_channels.Goals as goal

pub returns-in_err-write_channel-clause-short : goal.returns-in_err-write_channel-clause-short
returns-in_err-write_channel-clause-short g c =
    let held = g.W.Write.contents c.args.output.now in
    let before = g.W.Write.contents c.loop-number.output in
    let now = g.W.Write.contents c.write_channel.new.output in
    on_err c.from_residual.result _
    (less_channel held before now c.args.channels.now c.loop-number.number c.index-channels-number.result c.loop-number-test.true c.index-channels-number.is c.loop-number.invariant c.in_err-write_channel.ensures.short)

pub loop-number-preserved : goal.loop-number-preserved
loop-number-preserved g c =
    let held = g.W.Write.contents c.args.output.now in
    let before = g.W.Write.contents c.loop-number.output in
    let now = g.W.Write.contents c.write_channel.new.output in
    wrote_channel held before now c.args.channels.now c.loop-number.number c.index-channels-number.result c.loop-number-test.true c.index-channels-number.is c.loop-number.invariant c.in_ok-write_channel.ensures.ok
