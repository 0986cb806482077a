use Rattle.std.proofs.Common.{◌≤◌, ◌≡◌, rules}
use Rattle.jxl_netpbm.specs.Inner.Rows.{line_room}
use Rattle.jxl_netpbm.proofs.Lines.{lines_more}
use Rattle.jxl_netpbm.proofs.text.longest_line.Goals as goal

pub loop-channel-preserved : goal.loop-channel-preserved
loop-channel-preserved c =
    let same : c.in_ok-checked_add.field-0 ≡ line_room c.channel-item.result.width = search rules in
    let le : c.loop-channel.room ≤ c.max-room.result = search rules in
    let fits : line_room c.channel-item.result.width ≤ c.max-room.result = search rules in
    lines_more c.args.channels.now c.loop-channel.channel-index c.loop-channel.room c.max-room.result c.channel-item.result c.loop-channel-test.true c.channel-item.is le fits c.loop-channel.invariant
