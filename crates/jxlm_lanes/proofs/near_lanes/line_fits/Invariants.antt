use Rattle.std.proofs.Common.{◌<◌, ℕ, FitsSigned, w32}
use Rattle.jxlm_lanes.specs.Inner.Lanes.{lane}
use Rattle.jxlm_lanes.proofs.near_lanes.line_fits.Given as goal

abbrev pub invariant-loop-j : goal.invariant-loop-j
invariant-loop-j l = (j : ℕ) → j < l.j → FitsSigned w32 (lane l.line j)
