use Rattle.std.proofs.Common.{◌≡◌, map, take}
use Rattle.jxl_blending.specs.Scales.{loaded}
use Rattle.jxl_blending.proofs.singles.Singles.load.Given as goal

abbrev pub invariant-loop-sample : goal.invariant-loop-sample
invariant-loop-sample l = l.values.items ≡ map (loaded l.scale) (take l.sample-index l.cells)
