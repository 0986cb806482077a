use Rattle.std.proofs.Common.{◌≡◌, take}
use Rattle.jxl_modular.proofs.image.owning.clone_grids.Given as goal

abbrev pub invariant-loop-grid : goal.invariant-loop-grid
invariant-loop-grid g l = l.clones.items ≡ take l.grid-index l.grids
