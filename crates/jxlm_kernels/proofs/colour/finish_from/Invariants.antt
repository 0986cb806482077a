use Rattle.std.proofs.Common.{◌≤◌}
use Rattle.jxlm_lanes.proofs.ColourRows.{Cells}
use Rattle.jxlm_kernels.proofs.colour.finish_from.Given as goal

abbrev pub invariant-loop-i : goal.invariant-loop-i
invariant-loop-i g l = (l.from ≤ l.i) × Cells g.S.Arithmetic.width g.S.Arithmetic.to_int l.ty l.from l.i l.fn.a l.fn.b l.fn.c l.a l.b l.c
