-- What a grid ends as, once a `&mut` into it has ended.
use Rattle.std.specs.Prelude.{ℕ, List}
use Rattle.std.specs.Borrow.{Fml, RattleType, MutBor, Array, Lends}
use Rattle.jxlm_base.specs.Grid.{Grid, with_cell, with_row}
use Rattle.jxlm_base.specs.contracts.grid.AlignedGrid.{the_row}

module _ (R : RattleType) (g : MutBor (Grid R.Denot)) where
  -- the cell is the last value written through r
  abbrev pub LendsCell : ℕ → ℕ → MutBor R.Denot → Fml
  LendsCell x y r = Lends (the_row R) R g r (with_cell g.now x y)

  -- the row is what was last written through r
  abbrev pub LendsRow : ℕ → MutBor (List R.Denot) → Fml
  LendsRow y r = Lends (the_row R) (Array R 0) g r (with_row g.now y)
