use Rattle.std.proofs.Common.{◌≡◌, ◌-◌, ◌^◌, min, take}
use Rattle.jxl_encode.specs.Errors.{sample_count}
use Rattle.jxl_encode.proofs.large.sample_count.Given as goal

abbrev pub invariant-loop-grid : goal.invariant-loop-grid
invariant-loop-grid l = l.count ≡ min (sample_count (take l.grid-index l.channels)) (2 ^ 64 - 1)
