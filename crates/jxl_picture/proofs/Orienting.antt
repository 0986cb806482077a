-- Rows of a grid, written cell by cell and row by row.
use Rattle.std.proofs.Common.{◌≡◌, ℕ, ℤ, refl, ◌+◌, ◌<◌, List, [], ◌∷◌, ◌++◌, length, set, Option, Some, inl, inr, sym, ap, ◌∙◌, append_assoc, arith}
use Rattle.std.specs.Prelude.{slice_get}
use Rattle.std.specs.List.{AllZip}
use Rattle.std.proofs.lemmas.Bool.{cases_lt}
use Rattle.std.proofs.lemmas.List.{append-nil}
use Rattle.jxlm_base.specs.Grid.{Grid, IsFull, cell, with_row}
use Rattle.jxl_picture.specs.Orientations.{IsOriented}
use Rattle.jxlm_lanes.proofs.NumberAt.{slice_get-set_other, slice_get-set_same}
use Rattle.jxlm_base.proofs.RegionRows.{cell-with_row_same, cell-with_row_other}

-- one more cell of a row is what it should be
pub one_more_cell : {X : Type 0} (f : ℕ → Option X) (row : List X) (x : ℕ) (v : X) → x < length row → f x ≡ Some v → ((j : ℕ) → j < x → slice_get row j ≡ f j) →
    (j : ℕ) → j < x + 1 → slice_get (set row x v) j ≡ f j
one_more_cell f row x v within is so_far j h = elim (cases_lt j x) [
  | inl lt ↦ slice_get-set_other row x j v (λ e. absurd (omega (arith, e, lt))) ∙ so_far j lt
  | inr ge ↦ let same : j ≡ x = omega (arith, ge, h) in rw same (slice_get-set_same row x v within ∙ sym is)
]

-- one more row of a grid is what it should be
pub one_more_row : {X : Type 0} (f : ℕ → ℕ → Option X) (g : Grid X) (y : ℕ) (vs : List X) → IsFull g → y < g.height → length vs ≡ g.width → ((x : ℕ) → x < length vs → slice_get vs x ≡ f x y) →
    ((x j : ℕ) → x < g.width → j < y → cell g x j ≡ f x j) → (x j : ℕ) → x < g.width → j < y + 1 → cell (with_row g y vs) x j ≡ f x j
one_more_row f g y vs full below long are so_far x j h k = elim (cases_lt j y) [
  | inl lt ↦ cell-with_row_other g full y below vs long x j h (omega (arith, lt, below)) (λ e. absurd (omega (arith, e, lt))) ∙ so_far x j h lt
  | inr ge ↦ let same : j ≡ y = omega (arith, ge, k) in rw same (cell-with_row_same g full y below vs long x h ∙ are x (omega (arith, long, h)))
]

-- one more channel is oriented
pub one_more_oriented : {X Y : Type 0} (R : X → Y → Type 0) (xs : List X) (ys : List Y) (x : X) (y : Y) → AllZip R xs ys → R x y → AllZip R (xs ++ x ∷ []) (ys ++ y ∷ [])
one_more_oriented R [] [] x y all r = (r, tt)
one_more_oriented R [] (b ∷ ys) x y all r = absurd all
one_more_oriented R (a ∷ xs) [] x y all r = absurd all
one_more_oriented R (a ∷ xs) (b ∷ ys) x y all r = (all.0, one_more_oriented R xs ys x y all.1 r)

-- the items of an iterator, one after another
pub item_passed : {X : Type 0} (all front rest left : List X) (x : X) → all ≡ front ++ rest → rest ≡ x ∷ left → all ≡ (front ++ x ∷ []) ++ left
item_passed all front rest left x e f = e ∙ ap (λ (r : List _). front ++ r) f ∙ sym (append_assoc front (x ∷ []) left)

pub all_passed : {X : Type 0} (all front rest : List X) → all ≡ front ++ rest → length rest ≡ 0 → all ≡ front
all_passed all front [] e n = e ∙ append-nil front
all_passed all front (x ∷ xs) e n = absurd (omega (arith, n))

-- by orientation 1 what is shown is what was coded
same_as_it_is : (g : Grid ℤ) → IsOriented 1 g g
same_as_it_is g = record { wide = refl; high = refl; cells = λ x y h k. refl }

pub all_as_they_are : (gs : List (Grid ℤ)) → AllZip (IsOriented 1) gs gs
all_as_they_are [] = tt
all_as_they_are (g ∷ gs) = (same_as_it_is g, all_as_they_are gs)
