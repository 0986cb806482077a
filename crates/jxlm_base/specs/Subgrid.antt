-- A rectangle of a grid that is borrowed for writing.
use Rattle.std.specs.Prelude.{◌≡◌, ◌⊎◌, ℕ, ◌+◌, ◌<◌, ◌≤◌, ℤ}
use Rattle.std.specs.Borrow.{GName}
use Rattle.jxlm_base.specs.Grid.{Grid, grid_by, at, cell, meanings, IsFull}
use Rattle.jxlm_base.specs.declared.subgrid.MutableSubgrid.{MutableSubgrid}

-- column i of row j is outside the rectangle of w columns and h rows at (x, y)
abbrev pub IsOutside : ℕ → ℕ → ℕ → ℕ → ℕ → ℕ → Type 0
IsOutside x y w h i j = (i < x) ⊎ ((x + w ≤ i) ⊎ ((j < y) ⊎ (y + h ≤ j)))

module _ {S : Type 0} where
  -- the whole grid as it is now, and the name of the borrow
  abbrev pub whole : MutableSubgrid S → Grid S
  whole s = s.grid.now

  abbrev pub loan : MutableSubgrid S → GName
  loan s = s.grid.ghost_name

  -- s is the rectangle of these sides at (x, y) of the grid g
  pub record IsAt (s : MutableSubgrid S) (x y width height : ℕ) : Type 0 where
    pub left : s.x ≡ x
    pub top : s.y ≡ y
    pub columns : s.width ≡ width
    pub rows : s.height ≡ height

  -- the same borrow and the same rectangle
  pub record IsSamePlace (old new : MutableSubgrid S) : Type 0 where
    pub loan : new.grid.ghost_name ≡ old.grid.ghost_name
    pub at : IsAt new old.x old.y old.width old.height

  -- the grids have the same sides, and outside the rectangle of w columns and h rows at (x, y) the same cells
  pub record IsSameOutside (x y w h : ℕ) (old new : Grid S) : Type 0 where
    pub same_width : new.width ≡ old.width
    pub same_height : new.height ≡ old.height
    pub full : IsFull new
    pub outside : (i j : ℕ) → i < old.width → j < old.height → IsOutside x y w h i j → cell new i j ≡ cell old i j

  -- nothing but cells of the rectangle changed
  pub record KeepsOutside (old new : MutableSubgrid S) : Type 0 where
    pub place : IsSamePlace old new
    pub cells : IsSameOutside old.x old.y old.width old.height (whole old) (whole new)

  -- the numbers in the rectangle
  abbrev pub numbers_in : (S → ℤ) → MutableSubgrid S → Grid ℤ
  numbers_in f s = grid_by s.width s.height (λ x y. at (meanings f (whole s)) (s.x + x) (s.y + y))
