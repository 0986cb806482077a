use Rattle.std.proofs.Common.{◌≡◌}
use Rattle.jxl_encode_image.proofs.grids.table_of.Given as goal

abbrev pub invariant-loop-channel : goal.invariant-loop-channel
invariant-loop-channel g l = l.table.height ≡ l.channel-end
