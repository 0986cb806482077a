use Rattle.jxl_blending.specs.SingleGrids.{singles_of}
use Rattle.jxl_blending.proofs.ShownGrids.{AreRowsShown}
use Rattle.jxl_blending.proofs.singles.Singles.show_under.Given as goal

abbrev pub invariant-loop-j : goal.invariant-loop-j
invariant-loop-j l = AreRowsShown l.scale l.columns l.rows (singles_of l.self) l.fn.picture l.picture l.j
