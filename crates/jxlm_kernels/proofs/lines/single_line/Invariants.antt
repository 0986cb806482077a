use Rattle.jxlm_lanes.proofs.Lines.{CopiedSoFar}
use Rattle.jxlm_kernels.proofs.lines.single_line.Given as goal

abbrev pub invariant-loop-j : goal.invariant-loop-j
invariant-loop-j g l = CopiedSoFar g.S.Pairs.to_int g.S.Pairs.width l.line l.fn.strip l.at l.strip l.j
