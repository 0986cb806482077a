use Rattle.std.proofs.Common.{◌≡◌}
use Rattle.jxl_encode_image.proofs.grids.index_of.Given as goal

abbrev pub invariant-loop-y : goal.invariant-loop-y
invariant-loop-y g l = l.index.height ≡ l.y-end
