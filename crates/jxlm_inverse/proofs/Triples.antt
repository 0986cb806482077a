-- Samples of three grids.
use Rattle.std.proofs.Common.{ℕ, ℤ}
use Rattle.jxlm_lanes.specs.Colour.{Triple, triple}
use Rattle.jxlm_base.specs.Grid.{Grid, at}

-- the triple in column x of row y of three grids
abbrev pub triple_in : Grid ℤ → Grid ℤ → Grid ℤ → ℕ → ℕ → Triple
triple_in f g h x y = triple (at f x y) (at g x y) (at h x y)
