use Rattle.jxl_blending.proofs.ShownRows.{IsPartlyShown}
use Rattle.jxl_blending.proofs.scale.Scale.show_row.Given as goal

abbrev pub invariant-loop-i : goal.invariant-loop-i
invariant-loop-i l = IsPartlyShown l.self l.values l.start l.i l.fn.row l.row
