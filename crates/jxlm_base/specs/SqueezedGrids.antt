use Rattle.std.specs.Prelude.{ℕ, ◌<◌, ℤ, FitsSigned}
use Rattle.std.specs.Int.{Width}
use Rattle.jxlm_base.specs.Grid.{Grid, at, grid_by}
use Rattle.jxlm_lanes.specs.Squeeze.{squeezed}

-- each number of the grid fits the width
abbrev pub AreGridSamples : Width → Grid ℤ → Type 0
AreGridSamples w g = (x y : ℕ) → x < g.width → y < g.height → FitsSigned w (at g x y)

module _ (w : Width) where
  -- each row of the grid squeezed, and each column
  abbrev pub squeezed_rows : Grid ℤ → Grid ℤ
  squeezed_rows g = grid_by g.width g.height (λ x y. squeezed w g.width (λ i. at g i y) x)

  abbrev pub squeezed_columns : Grid ℤ → Grid ℤ
  squeezed_columns g = grid_by g.width g.height (λ x y. squeezed w g.height (λ i. at g x i) y)
