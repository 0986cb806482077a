use Rattle.std.proofs.Common.{◌*◌, length, w32}
use Rattle.jxlm_lanes.proofs.Lines.{LinesSoFar}
use Rattle.jxlm_lanes.proofs.near_lanes.unsqueeze_near.Given as goal

abbrev pub invariant-loop-k : goal.invariant-loop-k
invariant-loop-k l = LinesSoFar (λ x. x) w32 l.averages l.next l.residuals l.fn.strip (length l.averages) l.at l.strip (8 * l.k)
