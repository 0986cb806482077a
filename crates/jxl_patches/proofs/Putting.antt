-- A place, put into a grid row by row.
use Rattle.std.proofs.Common.{◌≡◌, ◌≢◌, ℕ, ℤ, pos, ◌+◌, ◌-◌, ◌<◌, ◌≤◌, true, false, List, length, get_or, ◌⊎◌, inl, inr, refl, sym, ap, ◌∙◌, arith}
use Rattle.std.specs.Prelude.{slice_range}
use Rattle.std.proofs.lemmas.Bool.{cases_lt, cases_eq, le-leb, lt-leb, lt-ltb, le-ltb}
use Rattle.std.proofs.lemmas.Bool.Decides.{nat_tests}
use Rattle.std.proofs.lemmas.Option.{slice_get-get_or, get_or_from_slice_get}
use Rattle.jxlm_base.specs.Grid.{Grid, at, row, with_row, IsFull}
use Rattle.jxlm_base.specs.Subgrid.{IsOutside}
use Rattle.jxlm_base.proofs.GridLaws.{at_from_cell, cell_from_at}
use Rattle.jxlm_base.proofs.RegionRows.{get_part, get_row, length-row, cell-with_row_same, cell-with_row_other, IsFull-with_row}
use Rattle.jxl_patches.specs.Patched.{covers}
use Rattle.jxl_patches.specs.Inner.Rows.{IsRowMixed, sample_put, top_rows}
use Rattle.jxl_patches.specs.declared.dictionary.Place.{Place}

-- ---- rows of grids of numbers

pub at_row : (g : Grid ℤ) (x y : ℕ) → IsFull g → x < g.width → y < g.height → get_or (row g y) x (pos 0) ≡ at g x y
at_row g x y full p q = get_or_from_slice_get (row g y) x (at g x y) (pos 0) (get_row g full y q x p ∙ cell_from_at g x y full p q)

module _ (g : Grid ℤ) (full : IsFull g) (y : ℕ) (below : y < g.height) (vs : List ℤ) (long : length vs ≡ g.width) where
  pub at_same : (x : ℕ) → x < g.width → at (with_row g y vs) x y ≡ get_or vs x (pos 0)
  at_same x h =
      at_from_cell (with_row g y vs) x y (get_or vs x (pos 0)) (cell-with_row_same g full y below vs long x h ∙ slice_get-get_or vs x (pos 0) (omega (arith, h, long)))

  pub at_other : (x j : ℕ) → x < g.width → j < g.height → j ≢ y → at (with_row g y vs) x j ≡ at g x j
  at_other x j p q ne = at_from_cell (with_row g y vs) x j (at g x j) (cell-with_row_other g full y below vs long x j p q ne ∙ cell_from_at g x j full p q)

-- a part of a row of a full grid
pub part_at : (g : Grid ℤ) (x0 y w i : ℕ) → IsFull g → y < g.height → x0 + w ≤ g.width → i < w → get_or (slice_range (row g y) x0 (x0 + w)) i (pos 0) ≡ at g (x0 + i) y
part_at g x0 y w i full q h lt =
    let right : x0 + i < g.width = omega (arith, h, lt) in
    get_or_from_slice_get (slice_range (row g y) x0 (x0 + w)) i (at g (x0 + i) y) (pos 0)
    (get_part (row g y) x0 w i lt ∙ get_row g full y q (x0 + i) right ∙ cell_from_at g (x0 + i) y full right q)

-- ---- a place covers a cell, or it lies outside

-- column x of row y is one of those that a place covers
pub record IsInside (p : Place) (x y : ℕ) : Type 0 where
  pub left : p.x ≤ x
  pub right : x < p.x + p.source.width
  pub top : p.y ≤ y
  pub bottom : y < p.y + p.source.height

abbrev Out : Place → ℕ → ℕ → Type 0
Out p x y = IsOutside p.x p.y p.source.width p.source.height x y

pub in_or_out : (p : Place) (x y : ℕ) → (IsInside p x y) ⊎ (Out p x y)
in_or_out p x y = first (cases_lt x p.x) (cases_lt x (p.x + p.source.width)) (cases_lt y p.y) (cases_lt y (p.y + p.source.height))
  where
    first : (x < p.x) ⊎ (p.x ≤ x) → (x < p.x + p.source.width) ⊎ (p.x + p.source.width ≤ x) → (y < p.y) ⊎ (p.y ≤ y) → (y < p.y + p.source.height) ⊎ (p.y + p.source.height ≤ y) →
        (IsInside p x y) ⊎ (Out p x y)
    first (inl a) b c d = inr (inl a)
    first (inr a) (inr b) c d = inr (inr (inl b))
    first (inr a) (inl b) (inl c) d = inr (inr (inr (inl c)))
    first (inr a) (inl b) (inr c) (inr d) = inr (inr (inr (inr d)))
    first (inr a) (inl b) (inr c) (inl d) = inl (record { left = a; right = b; top = c; bottom = d })

pub covers_inside : (p : Place) (x y : ℕ) → IsInside p x y → covers p x y ≡ true
covers_inside p x y i = rw (le-leb p.x x i.left, lt-ltb x (p.x + p.source.width) i.right, le-leb p.y y i.top, lt-ltb y (p.y + p.source.height) i.bottom) refl

pub covers_outside : (p : Place) (x y : ℕ) → Out p x y → covers p x y ≡ false
covers_outside p x y (inl a) = let h = lt-leb p.x x a in grind (arith, nat_tests)
covers_outside p x y (inr (inl a)) = let h = le-ltb x (p.x + p.source.width) a in grind (arith, nat_tests)
covers_outside p x y (inr (inr (inl a))) = let h = lt-leb p.y y a in grind (arith, nat_tests)
covers_outside p x y (inr (inr (inr a))) = let h = le-ltb y (p.y + p.source.height) a in grind (arith, nat_tests)

pub put_inside : (f : ℕ → ℕ → ℤ → ℤ) (p : Place) (x y : ℕ) (v : ℤ) → IsInside p x y → sample_put f p x y v ≡ f (x - p.x) (y - p.y) v
put_inside f p x y v i = rw (covers_inside p x y i) refl

pub put_outside : (f : ℕ → ℕ → ℤ → ℤ) (p : Place) (x y : ℕ) (v : ℤ) → Out p x y → sample_put f p x y v ≡ v
put_outside f p x y v o = rw (covers_outside p x y o) refl

-- a row that was mixed by a function that gives the same
pub mixed_by : (h f : ℕ → ℤ → ℤ) (start n : ℕ) (old new : List ℤ) → ((i : ℕ) (v : ℤ) → i < n → h i v ≡ f i v) → IsRowMixed h start n old new → IsRowMixed f start n old new
mixed_by h f start n old new e m = record { same = m.same; inside = λ i lt. m.inside i lt ∙ e i (get_or old (start + i) (pos 0)) lt; outside = m.outside }

-- ---- one row more

module _ (f : ℕ → ℕ → ℤ → ℤ) (p : Place) (old g : Grid ℤ) (j : ℕ) (full : IsFull g) (wide : g.width ≡ old.width) (high : g.height ≡ old.height)
    (columns : p.x + p.source.width ≤ old.width) (rows : p.y + p.source.height ≤ old.height) (below : j < p.source.height)
    (so_far : (x y : ℕ) → x < old.width → y < old.height → at g x y ≡ sample_put f (top_rows p j) x y (at old x y))
    (vs : List ℤ) (mix : IsRowMixed (λ i v. f i j v) p.x p.source.width (row g (p.y + j)) vs) where
  line : p.y + j < g.height
  line = omega (arith, rows, below, high)

  long : length vs ≡ g.width
  long = mix.same ∙ length-row g full (p.y + j) line

  -- a cell of this row, in a column of the place
  now_inside : (x y : ℕ) → x < old.width → y ≡ p.y + j → p.x ≤ x → x < p.x + p.source.width → at (with_row g (p.y + j) vs) x y ≡ f (x - p.x) (y - p.y) (at old x y)
  now_inside x y h same left right =
      let column : p.x + (x - p.x) ≡ x = omega (arith, left) in
      let within : x - p.x < p.source.width = omega (arith, right, left) in
      let mixed_in = mix.inside (x - p.x) within in
      let here : get_or vs x (pos 0) ≡ f (x - p.x) j (get_or (row g (p.y + j)) x (pos 0)) = rw column at mixed_in in
      let was : get_or (row g (p.y + j)) x (pos 0) ≡ at g x (p.y + j) = at_row g x (p.y + j) full (omega (arith, h, wide)) line in
      let before : at g x (p.y + j) ≡ at old x (p.y + j) =
      so_far x (p.y + j) h (omega (arith, line, high)) ∙ put_outside f (top_rows p j) x (p.y + j) (at old x (p.y + j)) (inr (inr (inr (omega arith)))) in
      let down : p.y + j - p.y ≡ j = omega arith in
      let there = at_same g full (p.y + j) line vs long x (omega (arith, h, wide)) in
      rw same (there ∙ here ∙ ap (λ (v : ℤ). f (x - p.x) j v) (was ∙ before) ∙ ap (λ (n : ℕ). f (x - p.x) n (at old x (p.y + j))) (sym down))

  -- any other cell stays
  now_outside : (x y : ℕ) → x < old.width → y < old.height → ((y ≢ p.y + j) ⊎ ((x < p.x) ⊎ (p.x + p.source.width ≤ x))) → at (with_row g (p.y + j) vs) x y ≡ at g x y
  now_outside x y h k (inl ne) = at_other g full (p.y + j) line vs long x y (omega (arith, h, wide)) (omega (arith, k, high)) ne
  now_outside x y h k (inr out) = elim (cases_eq y (p.y + j)) [
    | inr ne ↦ at_other g full (p.y + j) line vs long x y (omega (arith, h, wide)) (omega (arith, k, high)) ne
    | inl same ↦
        rw same (at_same g full (p.y + j) line vs long x (omega (arith, h, wide)) ∙ mix.outside x out ∙ at_row g x (p.y + j) full (omega (arith, h, wide)) line)
  ]

  pub row_full : IsFull (with_row g (p.y + j) vs)
  row_full = IsFull-with_row g full (p.y + j) line vs long

  by_cases : (x y : ℕ) → x < old.width → y < old.height → (IsInside (top_rows p (j + 1)) x y) ⊎ (Out (top_rows p (j + 1)) x y) → (y < p.y + j) ⊎ (p.y + j ≤ y) →
      at (with_row g (p.y + j) vs) x y ≡ sample_put f (top_rows p (j + 1)) x y (at old x y)
  by_cases x y h k (inr out) before =
      let still : (y ≢ p.y + j) ⊎ ((x < p.x) ⊎ (p.x + p.source.width ≤ x)) = elsewhere out in
      let above : Out (top_rows p j) x y = shorter out in
      now_outside x y h k still ∙ so_far x y h k ∙ put_outside f (top_rows p j) x y (at old x y) above ∙ sym (put_outside f (top_rows p (j + 1)) x y (at old x y) out)
    where
      elsewhere : Out (top_rows p (j + 1)) x y → (y ≢ p.y + j) ⊎ ((x < p.x) ⊎ (p.x + p.source.width ≤ x))
      elsewhere (inl a) = inr (inl a)
      elsewhere (inr (inl a)) = inr (inr a)
      elsewhere (inr (inr (inl a))) = inl (λ e. omega (arith, a, e))
      elsewhere (inr (inr (inr a))) = inl (λ e. omega (arith, a, e))

      shorter : Out (top_rows p (j + 1)) x y → Out (top_rows p j) x y
      shorter (inl a) = inl a
      shorter (inr (inl a)) = inr (inl a)
      shorter (inr (inr (inl a))) = inr (inr (inl a))
      shorter (inr (inr (inr a))) = inr (inr (inr (omega (arith, a))))
  by_cases x y h k (inl i) (inl before) =
      let same : IsInside (top_rows p j) x y = record { left = i.left; right = i.right; top = i.top; bottom = before } in
      now_outside x y h k (inl (λ e. omega (arith, before, e))) ∙ so_far x y h k ∙ put_inside f (top_rows p j) x y (at old x y) same
      ∙ sym (put_inside f (top_rows p (j + 1)) x y (at old x y) i)
  by_cases x y h k (inl i) (inr after) =
      let b = i.bottom in
      let same : y ≡ p.y + j = omega (arith, after, b) in
      now_inside x y h same i.left i.right ∙ sym (put_inside f (top_rows p (j + 1)) x y (at old x y) i)

  -- the first j + 1 rows of the place are put
  pub row_put : (x y : ℕ) → x < old.width → y < old.height → at (with_row g (p.y + j) vs) x y ≡ sample_put f (top_rows p (j + 1)) x y (at old x y)
  row_put x y h k = by_cases x y h k (in_or_out (top_rows p (j + 1)) x y) (cases_lt y (p.y + j))

-- no row was put yet
pub no_row_put : (f : ℕ → ℕ → ℤ → ℤ) (p : Place) (x y : ℕ) (v : ℤ) → v ≡ sample_put f (top_rows p 0) x y v
no_row_put f p x y v = sym (put_outside f (top_rows p 0) x y v (none (cases_lt y p.y)))
  where
    none : (y < p.y) ⊎ (p.y ≤ y) → Out (top_rows p 0) x y
    none (inl a) = inr (inr (inl a))
    none (inr a) = inr (inr (inr (omega (arith, a))))
