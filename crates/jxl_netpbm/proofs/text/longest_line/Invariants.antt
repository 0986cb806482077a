use Rattle.std.proofs.Common.{◌≤◌, take}
use Rattle.std.specs.List.{All}
use Rattle.jxl_netpbm.specs.Inner.Rows.{line_room}
use Rattle.jxl_netpbm.proofs.text.longest_line.Given as goal

abbrev pub invariant-loop-channel : goal.invariant-loop-channel
invariant-loop-channel l = All (λ g. line_room g.width ≤ l.room) (take l.channel-index l.channels)
