use Rattle.jxlm_kernels.proofs.Turned.{TurnedSoFar}
use Rattle.jxlm_kernels.proofs.lines.turn_row.Given as goal

abbrev pub invariant-loop-i : goal.invariant-loop-i
invariant-loop-i g l = TurnedSoFar l.row l.fn.turned l.rows l.j l.turned l.i
