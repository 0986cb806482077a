use Rattle.jxl_text.proofs.Filling.{Filled}
use Rattle.jxl_text.proofs.rows.grid_of.Given as goal

abbrev pub invariant-loop-y : goal.invariant-loop-y
invariant-loop-y g l = Filled l.width l.height l.cells l.left l.result_grid l.y
