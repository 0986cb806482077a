use Rattle.std.proofs.Common.{◌≡◌, take}
use Rattle.jxlm_encode.proofs.encode.cloned.Given as goal

abbrev pub invariant-loop-grid : goal.invariant-loop-grid
invariant-loop-grid g l = l.clones.items ≡ take l.grid-index l.grids
