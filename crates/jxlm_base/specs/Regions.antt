-- Rectangles of the grids of one store.
use Rattle.std.specs.Prelude.{◌≡◌, ℕ, ◌+◌, ◌<◌, ◌≤◌, List, [], length, get_or, slice_set, map, ℤ, Option}
use Rattle.std.specs.List.{All, AllPairs}
use Rattle.jxlm_base.specs.Grid.{Grid, grid, grid_by, at, cell, with_cell, meanings, IsFull}
pub use Rattle.jxlm_base.specs.declared.subgrid.Region.{Region}

abbrev pub region : ℕ → ℕ → ℕ → ℕ → ℕ → Region
region b x y w h = record { buffer = b; x = x; y = y; width = w; height = h }

module _ {S : Type 0} where
  -- the buffer of a region; a grid of no cells where the store has none
  abbrev pub buffer_of : List (Grid S) → Region → Grid S
  buffer_of store r = get_or store r.buffer (grid 0 0 [])

  -- the cell in column x of row y of the region
  abbrev pub region_cell : List (Grid S) → Region → ℕ → ℕ → Option S
  region_cell store r x y = cell (buffer_of store r) (r.x + x) (r.y + y)

  -- the store with v in column x of row y of the region
  abbrev pub with_region_cell : List (Grid S) → Region → ℕ → ℕ → S → List (Grid S)
  with_region_cell store r x y v = slice_set store r.buffer (with_cell (buffer_of store r) (r.x + x) (r.y + y) v)

  -- the region lies inside a full buffer of the store
  pub record Lies (r : Region) (store : List (Grid S)) : Type 0 where
    pub there : r.buffer < length store
    pub full : IsFull (buffer_of store r)
    pub columns : r.x + r.width ≤ (buffer_of store r).width
    pub rows : r.y + r.height ≤ (buffer_of store r).height

  abbrev pub AllLie : List Region → List (Grid S) → Type 0
  AllLie rs store = All (λ r. Lies r store) rs

  -- the region is its whole buffer
  pub record IsWhole (r : Region) (store : List (Grid S)) : Type 0 where
    pub left : r.x ≡ 0
    pub top : r.y ≡ 0
    pub columns : r.width ≡ (buffer_of store r).width
    pub rows : r.height ≡ (buffer_of store r).height

  -- the store of what the cells stand for
  abbrev pub store_meanings : {T : Type 0} → (S → T) → List (Grid S) → List (Grid T)
  store_meanings f store = map (meanings f) store

-- the grid in a region
abbrev pub grid_of : List (Grid ℤ) → Region → Grid ℤ
grid_of store r = grid_by r.width r.height (λ x y. at (buffer_of store r) (r.x + x) (r.y + y))

-- column x of row y of buffer b lies in the region
pub record HasCell (r : Region) (b x y : ℕ) : Type 0 where
  pub buffer : r.buffer ≡ b
  pub left : r.x ≤ x
  pub right : x < r.x + r.width
  pub top : r.y ≤ y
  pub bottom : y < r.y + r.height

-- two regions share no cell
abbrev pub AreApart : Region → Region → Type 0
AreApart r s = (b x y : ℕ) → HasCell r b x y → HasCell s b x y → ⊥

-- no two of the regions share a cell
abbrev pub LieApart : List Region → Type 0
LieApart rs = AllPairs AreApart rs

-- Where no two regions share a cell, a write to a cell of one changes that cell of its grid, and no other grid.
abbrev pub WritesChangeOneGrid : List Region → Type 0
WritesChangeOneGrid rs = (store : List (Grid ℤ)) (i x y : ℕ) (v : ℤ) (d : Region) → AllLie rs store → i < length rs → let r : Region = get_or rs i d in
    x < r.width → y < r.height → map (grid_of (with_region_cell store r x y v)) rs ≡ slice_set (map (grid_of store) rs) i (with_cell (grid_of store r) x y v)

-- the grids in regions
abbrev pub grids_in : List Region → List (Grid ℤ) → List (Grid ℤ)
grids_in regions store = map (grid_of store) regions
