-- What a sample of an earlier channel is expected to be.
use Rattle.std.specs.Prelude.{ℕ, ℤ}
use Rattle.jxlm_base.specs.Grid.{Grid}
use Rattle.jxlm_bits.specs.Numbers.{clamped_gradient}
use Rattle.jxlm_weighted.specs.Neighbours.{west, north, north_west}

-- the clamped gradient of its neighbours
abbrev pub expected_in : Grid ℤ → ℕ → ℕ → ℤ
expected_in g x y = clamped_gradient (north g.cells g.width x y) (west g.cells g.width x y) (north_west g.cells g.width x y)
