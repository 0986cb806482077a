use Rattle.jxl_text.proofs.RowWords.{Begun}
use Rattle.jxl_text.proofs.rows.read_row.Given as goal

abbrev pub invariant-loop-x : goal.invariant-loop-x
invariant-loop-x g l = Begun g.S.Sealed.to_int g.S.Sealed.width l.line l.left l.initial.cells.items l.cells.items l._x
