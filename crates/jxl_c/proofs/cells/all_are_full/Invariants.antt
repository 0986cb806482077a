use Rattle.std.proofs.Common.{take}
use Rattle.std.specs.List.{All}
use Rattle.jxlm_base.specs.Grid.{IsFull}
use Rattle.jxl_c.proofs.cells.all_are_full.Given as goal

abbrev pub invariant-loop-channel : goal.invariant-loop-channel
invariant-loop-channel l = All IsFull (take l.channel-index l.channels)
