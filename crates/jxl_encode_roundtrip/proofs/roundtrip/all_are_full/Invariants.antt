use Rattle.std.proofs.Common.{take}
use Rattle.std.specs.List.{All}
use Rattle.jxlm_base.specs.Grid.{IsFull}
use Rattle.jxl_encode_roundtrip.proofs.roundtrip.all_are_full.Given as goal

abbrev pub invariant-loop-grid : goal.invariant-loop-grid
invariant-loop-grid l = All IsFull (take l.grid-index l.grids)
