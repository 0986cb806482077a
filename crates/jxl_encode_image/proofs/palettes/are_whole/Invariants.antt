use Rattle.std.proofs.Common.{ℕ, ◌+◌, ◌<◌}
use Rattle.jxl_encode_image.specs.Inner.Placing.{LiesWhole, region_at}
use Rattle.jxl_encode_image.proofs.palettes.are_whole.Given as goal

abbrev pub invariant-loop-k : goal.invariant-loop-k
invariant-loop-k g l = (j : ℕ) → j < l.k → LiesWhole (region_at l.channels (l.begin + j)) (l.first + j) l.store
