-- Channels as what their samples stand for.
use Rattle.std.specs.Prelude.{ℕ, ℤ, get_or}
use Rattle.std.specs.Float.{Float, nan}
use Rattle.jxlm_base.specs.Grid.{Grid, grid, meanings, place}
use Rattle.jxl_blending.specs.Scales.{loaded}
use Rattle.jxl_blending.specs.declared.scale.Scale.{Scale}
use Rattle.jxl_blending.specs.declared.singles.Singles.{Singles}

-- the grid of these values
abbrev pub singles_of : Singles → Grid Float
singles_of s = grid s.width s.height s.cells.items

-- the value in column x of row y, and no number where there is none
abbrev pub value_at : Grid Float → ℕ → ℕ → Float
value_at g x y = get_or g.cells (place g x y) nan

-- what the samples of a channel stand for
abbrev pub loaded_grid : Scale → Grid ℤ → Grid Float
loaded_grid scale g = meanings (loaded scale) g
