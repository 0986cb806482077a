use Rattle.std.proofs.Common.{◌≡◌, map, take}
use Rattle.std.specs.List.{All}
use Rattle.jxlm_base.specs.Grid.{IsFull}
use Rattle.jxlm_encode.proofs.OwnGrids.{own_channel}
use Rattle.jxlm_encode.proofs.placing.infos_of.Given as goal

abbrev pub invariant-loop-grid : goal.invariant-loop-grid
invariant-loop-grid g l = record {
  channels : l.infos.items ≡ map own_channel (take l.grid-index l.grids);
  full : All IsFull (take l.grid-index l.grids);
}
