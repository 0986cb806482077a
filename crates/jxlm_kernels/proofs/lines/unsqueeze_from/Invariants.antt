use Rattle.std.proofs.Common.{length}
use Rattle.jxlm_lanes.proofs.Lines.{LinesSoFar}
use Rattle.jxlm_kernels.proofs.lines.unsqueeze_from.Given as goal

abbrev pub invariant-loop-j : goal.invariant-loop-j
invariant-loop-j g l = LinesSoFar g.S.Pairs.to_int g.S.Pairs.width l.averages l.next l.residuals l.fn.strip (length l.averages) l.at l.strip l.j
