use Rattle.std.proofs.Common.{◌≡◌, map, take}
use Rattle.jxlm_encode.proofs.OwnGrids.{params_of_grid}
use Rattle.jxlm_encode_roundtrip.proofs.roundtrip.params_of.Given as goal

abbrev pub invariant-loop-grid : goal.invariant-loop-grid
invariant-loop-grid g l = l.params.items ≡ map params_of_grid (take l.grid-index l.grids)
