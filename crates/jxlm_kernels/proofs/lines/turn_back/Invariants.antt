use Rattle.jxlm_kernels.proofs.Turned.{BackSoFar}
use Rattle.jxlm_kernels.proofs.lines.turn_back.Given as goal

abbrev pub invariant-loop-i : goal.invariant-loop-i
invariant-loop-i g l = BackSoFar l.strip l.fn.row l.rows l.j l.row l.i
