-- The samples of channels.
use Rattle.std.specs.Prelude.{ℤ, List}
use Rattle.std.specs.List.{flat_map}
use Rattle.jxlm_base.specs.Grid.{Grid}

-- the samples of all channels: one channel after another, each row by row
abbrev pub cells_of_all : List (Grid ℤ) → List ℤ
cells_of_all channels = flat_map (λ g. g.cells) channels
