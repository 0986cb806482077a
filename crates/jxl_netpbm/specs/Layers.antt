-- Layers as the code holds them.
use Rattle.std.specs.Prelude.{ℕ, ◌<◌, ◌≤◌, ℤ, List, map}
use Rattle.std.specs.List.{All}
use Rattle.jxlm_base.specs.Grid.{Grid}
use Rattle.jxl_netpbm.specs.Rasters.{Layer}
use Rattle.jxl_netpbm.specs.declared.layers.Layer.{Layer as Held}

abbrev pub layer_of : Held → Layer
layer_of l = record { grid = l.grid.now; own = l.own }

abbrev pub layers_of : List Held → List Layer
layers_of layers = map layer_of layers

-- each has these columns and rows, and a maximum above 0
pub record Covers (width height : ℕ) (l : Held) : Type 0 where
  pub wide : width ≤ l.grid.now.width
  pub high : height ≤ l.grid.now.height
  pub some : 0 < l.own

abbrev pub AllCover : ℕ → ℕ → List Held → Type 0
AllCover width height layers = All (Covers width height) layers

-- each channel has these columns and rows
pub record Has (width height : ℕ) (g : Grid ℤ) : Type 0 where
  pub wide : width ≤ g.width
  pub high : height ≤ g.height

abbrev pub AllHave : ℕ → ℕ → List (Grid ℤ) → Type 0
AllHave width height channels = All (Has width height) channels
