use Rattle.std.proofs.Common.{◌*◌, w16}
use Rattle.jxlm_lanes.specs.FinishedCells.{FinishesCells}
use Rattle.jxlm_lanes.proofs.colour_lanes.finish_eights.Given as goal

abbrev pub invariant-loop-k : goal.invariant-loop-k
invariant-loop-k l = FinishesCells w16 l.ty 0 (8 * l.k) l.fn.a l.fn.b l.fn.c l.a l.b l.c
