-- A region of a store whose rows or columns were squeezed (ISO/IEC 18181-1, Modular: squeeze).
use Rattle.std.specs.Prelude.{◌≡◌, ◌/◌, List, Bool, true, false, ℤ}
use Rattle.std.specs.Int.{Width}
use Rattle.jxlm_base.specs.Grid.{Grid, grid_by, at}
use Rattle.jxlm_base.specs.Regions.{grid_of}
use Rattle.jxlm_lanes.specs.Squeeze.{averages, average_at, residual_at}
use Rattle.jxlm_base.specs.SqueezedGrids.{AreGridSamples, squeezed_rows, squeezed_columns}
use Rattle.jxlm_base.specs.declared.subgrid.Region.{Region}

module _ (w : Width) where
  -- a grid whose rows, or columns, were squeezed
  abbrev pub squeezed_grid : Bool → Grid ℤ → Grid ℤ
  squeezed_grid true g = squeezed_rows w g
  squeezed_grid false g = squeezed_columns w g

  -- the averages of each row, or of each column
  abbrev pub average_grid : Bool → Grid ℤ → Grid ℤ
  average_grid true g = grid_by (averages g.width) g.height (λ x y. average_at w g.width (λ i. at g i y) x)
  average_grid false g = grid_by g.width (averages g.height) (λ x y. average_at w g.height (λ i. at g x i) y)

  -- the residuals of each row, or of each column
  abbrev pub residual_grid : Bool → Grid ℤ → Grid ℤ
  residual_grid true g = grid_by (g.width / 2) g.height (λ x y. residual_at w g.width (λ i. at g i y) x)
  residual_grid false g = grid_by g.width (g.height / 2) (λ x y. residual_at w g.height (λ i. at g x i) y)

  -- the region's grid now is w-bit samples that, squeezed, are what was there
  pub record UndoesSqueeze (horizontal : Bool) (r : Region) (old new : List (Grid ℤ)) : Type 0 where
    pub squeezed : squeezed_grid horizontal (grid_of new r) ≡ grid_of old r
    pub samples : AreGridSamples w (grid_of new r)
