-- Indices that are the numbers of the colours of pixels.
use Rattle.std.specs.Prelude.{◌≡◌, ℕ, ◌<◌, ℤ, pos, List, [], length, get_or, FitsSigned}
use Rattle.std.specs.Int.{Width}
use Rattle.jxlm_base.specs.Grid.{Grid, grid, at, meanings}

module _ {S : Type 0} (to_int : S → ℤ) (w : Width) where
  -- Column n of the table has the sample of channel c in column x of row y, which is one of w bits.
  pub record NamesSample (g table : Grid S) (n c x y : ℕ) : Type 0 where
    pub same : at (meanings to_int table) n c ≡ at (meanings to_int g) x y
    pub fits : FitsSigned w (at (meanings to_int g) x y)

  -- The index there is the number of a column of the table that has the samples of all channels.
  pub record NamesPixel (grids : List (Grid S)) (table index : Grid S) (x y : ℕ) : Type 0 where
    pub number : ℕ
    pub is : at (meanings to_int index) x y ≡ pos number
    pub within : number < table.width
    pub samples : (c : ℕ) → c < length grids → NamesSample (get_or grids c (grid 0 0 [])) table number c x y

  -- so does each of a row
  abbrev pub NamesRow : List (Grid S) → Grid S → Grid S → ℕ → Type 0
  NamesRow grids table index y = (x : ℕ) → x < index.width → NamesPixel grids table index x y

  -- and each of the grid
  abbrev pub NamesAll : List (Grid S) → Grid S → Grid S → Type 0
  NamesAll grids table index = (x y : ℕ) → x < index.width → y < index.height → NamesPixel grids table index x y
