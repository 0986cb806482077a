-- The numbers of a rectangle, to be undone line by line.
use Rattle.std.specs.Prelude.{ℕ, ◌+◌, ℤ}
use Rattle.jxlm_base.specs.declared.subgrid.MutableSubgrid.{MutableSubgrid}
use Rattle.jxlm_base.specs.Grid.{Grid, at, meanings}

module _ {S : Type 0} (f : S → ℤ) where
  -- the numbers of row y and of column x of the rectangle s, in the grid g
  abbrev pub row_in : MutableSubgrid S → Grid S → ℕ → ℕ → ℤ
  row_in s g y i = at (meanings f g) (s.x + i) (s.y + y)

  abbrev pub column_in : MutableSubgrid S → Grid S → ℕ → ℕ → ℤ
  column_in s g x i = at (meanings f g) (s.x + x) (s.y + i)
