use Rattle.std.proofs.Common.{◌<◌, ℕ, FitsSigned, w16}
use Rattle.jxlm_lanes.specs.Inner.Lanes.{lane}
use Rattle.jxlm_lanes.proofs.lanes.line_fits.Given as goal

abbrev pub invariant-loop-j : goal.invariant-loop-j
invariant-loop-j l = (j : ℕ) → j < l.j → FitsSigned w16 (lane l.line j)
