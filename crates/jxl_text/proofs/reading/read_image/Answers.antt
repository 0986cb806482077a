use Rattle.std.proofs.Common.{arith}
use Rattle.jxl_text.proofs.ReadRows.{channel_more}
use Rattle.jxl_text.proofs.reading.read_image.Goals as goal

pub loop-lines-preserved : goal.loop-lines-preserved
loop-lines-preserved g c =
    channel_more g.S.Sealed.width c.args.text.now g.S.Sealed.to_int c.loop-lines.lines.rest.now c.read_channel.new.lines.rest.now c.loop-lines.channels.items c.push.new.self.items c.loop-lines.lines.taken
    c.read_channel.new.lines.taken c.len.result c.in_ok-channel.channel c.loop-lines.invariant (omega (arith, c.len.ensures, c.loop-lines.channels.ok.0)) c.in_ok-channel.ensures.ok c.in_ok-channel.ensures.taken c.in_ok-push.ensures.items
