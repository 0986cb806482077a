-- The samples on which a place lies, copied.
use Rattle.std.proofs.Common.{◌≡◌, ℕ, ℤ, pos, ◌+◌, ◌<◌, ◌≤◌, List, [], ◌∷◌, ◌++◌, length, get_or, ◌⊎◌, inl, inr, ◌∙◌, arith, subst}
use Rattle.std.proofs.lemmas.Bool.{cases_lt}
use Rattle.std.proofs.lemmas.List.{get_or_push, get_or_append_left}
use Rattle.jxlm_base.specs.Grid.{Grid, at, row, with_row, grid, IsFull}
use Rattle.jxlm_base.proofs.RegionRows.{length-row, IsFull-with_row}
use Rattle.jxl_patches.proofs.Putting.{at_same, at_other}
use Rattle.jxl_patches.specs.Inner.Rows.{IsCovered, IsRowMixed}
use Rattle.jxl_patches.specs.declared.dictionary.Place.{Place}

module _ (whole g : Grid ℤ) (p : Place) (j : ℕ) (full : IsFull g) (wide : g.width ≡ p.source.width) (high : g.height ≡ p.source.height) (below : j < p.source.height)
    (so_far : (x y : ℕ) → x < p.source.width → y < j → at g x y ≡ at whole (p.x + x) (p.y + y))
    (from vs : List ℤ) (from_at : (i : ℕ) → i < p.source.width → get_or from i (pos 0) ≡ at whole (p.x + i) (p.y + j)) (long_from : length from ≡ p.source.width)
    (mix : IsRowMixed (λ i v. get_or from i (pos 0)) 0 (length from) (row g j) vs) where
  line : j < g.height
  line = omega (arith, high, below)

  long : length vs ≡ g.width
  long = mix.same ∙ length-row g full j line

  pub row_full : IsFull (with_row g j vs)
  row_full = IsFull-with_row g full j line vs long

  by_cases : (x y : ℕ) → x < p.source.width → y < j + 1 → (y < j) ⊎ (j ≤ y) → at (with_row g j vs) x y ≡ at whole (p.x + x) (p.y + y)
  by_cases x y h k (inl before) = at_other g full j line vs long x y (omega (arith, h, wide)) (omega (arith, before, line)) (λ e. omega (arith, e, before)) ∙ so_far x y h before
  by_cases x y h k (inr ge) =
      let same : y ≡ j = omega (arith, k, ge) in
      let none : 0 + x ≡ x = omega arith in
      let mixed : get_or vs x (pos 0) ≡ get_or from x (pos 0) = subst (λ (n : ℕ). get_or vs n (pos 0) ≡ get_or from x (pos 0)) none (mix.inside x (omega (arith, h, long_from))) in
      rw same (at_same g full j line vs long x (omega (arith, h, wide)) ∙ mixed ∙ from_at x h)

  -- the first j + 1 rows are copied
  pub row_covered : (x y : ℕ) → x < p.source.width → y < j + 1 → at (with_row g j vs) x y ≡ at whole (p.x + x) (p.y + y)
  row_covered x y h k = by_cases x y h k (cases_lt y j)

-- one channel more
module _ (p : Place) (grids parts : List (Grid ℤ)) (k : ℕ) (part : Grid ℤ) (count : length parts ≡ k)
    (so_far : (c : ℕ) → c < k → IsCovered p (get_or grids c (grid 0 0 [])) (get_or parts c (grid 0 0 []))) (here : IsCovered p (get_or grids k (grid 0 0 [])) part) where
  pub covered_more : (c : ℕ) → c < k + 1 → IsCovered p (get_or grids c (grid 0 0 [])) (get_or (parts ++ part ∷ []) c (grid 0 0 []))
  covered_more c lt = elim (cases_lt c k) [
    | inl before ↦ rw (get_or_append_left parts (part ∷ []) (grid 0 0 []) c (omega (arith, before, count))) (so_far c before)
    | inr ge ↦ let same : c ≡ k = omega (arith, lt, ge) in rw (same, get_or_push parts part (grid 0 0 []) k count) here
  ]
