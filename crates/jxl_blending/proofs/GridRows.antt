-- Rows of grids of numbers.
use Rattle.std.proofs.Common.{◌≡◌, ◌≢◌, ℕ, ℤ, pos, ◌<◌, List, length, get_or, ◌∙◌, arith}
use Rattle.std.proofs.lemmas.Option.{slice_get-get_or, get_or_from_slice_get}
use Rattle.jxlm_base.specs.Grid.{Grid, at, row, with_row, IsFull}
use Rattle.jxlm_base.proofs.GridLaws.{at_from_cell, cell_from_at}
use Rattle.jxlm_base.proofs.RegionRows.{get_row, cell-with_row_same, cell-with_row_other, IsFull-with_row}

pub at_row : (g : Grid ℤ) (x y : ℕ) → IsFull g → x < g.width → y < g.height → get_or (row g y) x (pos 0) ≡ at g x y
at_row g x y full p q = get_or_from_slice_get (row g y) x (at g x y) (pos 0) (get_row g full y q x p ∙ cell_from_at g x y full p q)

module _ (g : Grid ℤ) (full : IsFull g) (y : ℕ) (below : y < g.height) (vs : List ℤ) (long : length vs ≡ g.width) where
  pub at_same : (x : ℕ) → x < g.width → at (with_row g y vs) x y ≡ get_or vs x (pos 0)
  at_same x h =
      at_from_cell (with_row g y vs) x y (get_or vs x (pos 0)) (cell-with_row_same g full y below vs long x h ∙ slice_get-get_or vs x (pos 0) (omega (arith, h, long)))

  pub at_other : (x j : ℕ) → x < g.width → j < g.height → j ≢ y → at (with_row g y vs) x j ≡ at g x j
  at_other x j p q ne = at_from_cell (with_row g y vs) x j (at g x j) (cell-with_row_other g full y below vs long x j p q ne ∙ cell_from_at g x j full p q)

  pub still_full : IsFull (with_row g y vs)
  still_full = IsFull-with_row g full y below vs long
