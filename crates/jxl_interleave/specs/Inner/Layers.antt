-- The channels of pixels as the code holds them.
use Rattle.std.specs.Prelude.{ℕ, ◌<◌, ℤ, List, ◌++◌, map, Option, IfSome, option_to_list}
use Rattle.std.specs.List.{flat_map}
use Rattle.std.specs.Option.{option_map}
use Rattle.jxlm_base.specs.Grid.{Grid}
use Rattle.jxl_netpbm.specs.Layers.{AllHave, Covers, layer_of}
use Rattle.jxl_netpbm.specs.Rasters.{Layer}
use Rattle.jxl_netpbm.specs.declared.layers.Layer.{Layer as Held}
use Rattle.jxl_interleave.specs.Pixels.{sample_bytes}
use Rattle.jxl_interleave.specs.declared.depth.Depth.{Depth}
use Rattle.jxl_interleave.specs.declared.pixels.Layers.{Layers}

-- a channel of colours, with the maximum of all of them
abbrev pub with_own : ℕ → Grid ℤ → Layer
with_own own g = record { grid = g; own = own }

-- all channels of pixels
abbrev pub layers_of : Layers → List Layer
layers_of l = map (with_own l.own) l.colours.now ++ option_to_list (option_map layer_of l.alpha)

-- the samples of channels with one maximum in column x of row y
abbrev pub samples_in : Depth → ℕ → ℕ → ℕ → List (Grid ℤ) → List ℕ
samples_in depth x y own channels = flat_map (λ g. sample_bytes depth x y (with_own own g)) channels

-- a channel, if there is one, has these columns and rows, and a maximum above 0
abbrev pub CoversIf : ℕ → ℕ → Option Held → Type 0
CoversIf width height alpha = IfSome alpha (Covers width height)

-- all channels of pixels do
pub record CoverAll (width height : ℕ) (l : Layers) : Type 0 where
  pub some : 0 < l.own
  pub colours : AllHave width height l.colours.now
  pub alpha : CoversIf width height l.alpha
