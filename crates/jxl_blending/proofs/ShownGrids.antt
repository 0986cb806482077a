-- Grids while samples that are nearest to values are written into them, row by row.
use Rattle.std.proofs.Common.{◌≡◌, ◌≢◌, ℕ, ℤ, pos, ◌+◌, ◌-◌, ◌*◌, ◌<◌, ◌≤◌, List, length, get_or, ◌⊎◌, inl, inr, refl, sym, subst, ap, ◌∙◌, arith}
use Rattle.std.specs.Prelude.{Option, slice_range, unwrap_or}
use Rattle.std.specs.Float.{Float, nan}
use Rattle.std.proofs.lemmas.Bool.{cases_lt, cases_eq}
use Rattle.std.proofs.lemmas.Int.{ints}
use Rattle.std.proofs.lemmas.Option.{unwrap_or-slice_get}
use Rattle.jxlm_base.specs.Grid.{Grid, at, row, with_row, IsFull}
use Rattle.jxlm_base.proofs.RegionRows.{get_part, length-part, length-row}
use Rattle.jxl_blending.specs.Overlaps.{LiesOn, IsOverlap, IsShownUnder}
use Rattle.jxl_blending.specs.Scales.{shown}
use Rattle.jxl_blending.specs.SingleGrids.{value_at}
use Rattle.jxl_blending.specs.Inner.Rows.{IsRowShown}
use Rattle.jxl_blending.specs.declared.overlap.Overlap.{Overlap}
use Rattle.jxl_blending.specs.declared.scale.Scale.{Scale}
use Rattle.jxl_blending.proofs.BlendedGrids.{Apart}
use Rattle.jxl_blending.proofs.GridRows.{at_row, at_same, at_other, still_full}

-- value i of a part of a list
pub part_of : (xs : List Float) (start count i : ℕ) → i < count → get_or (slice_range xs start (start + count)) i nan ≡ get_or xs (start + i) nan
part_of xs start count i lt =
    sym (unwrap_or-slice_get (slice_range xs start (start + count)) i nan) ∙ ap (λ (o : Option Float). unwrap_or o nan) (get_part xs start count i lt) ∙ unwrap_or-slice_get xs (start + i) nan

-- the same of lists that are called otherwise
pub same_cells : (scale : Scale) (xs ys : List Float) (a n start : ℕ) (o p new : List ℤ) → xs ≡ ys → o ≡ p → IsRowShown scale (slice_range xs a (a + n)) start o new → IsRowShown scale (slice_range ys a (a + n)) start p new
same_cells scale xs ys a n start o p new e f h =
    subst (λ (l : List ℤ). IsRowShown scale (slice_range ys a (a + n)) start l new) f (subst (λ (l : List Float). IsRowShown scale (slice_range l a (a + n)) start o new) e h)

-- the values of a row
pub values_at : (values : Grid Float) (w y first count i : ℕ) → w ≡ values.width → i < count → get_or (slice_range values.cells (y * w + first) (y * w + first + count)) i nan ≡ value_at values (first + i) y
values_at values w y first count i e lt =
    let place : y * w + first + i ≡ y * values.width + (first + i) = rw e (omega arith) in
    part_of values.cells (y * w + first) count i lt ∙ ap (λ (p : ℕ). get_or values.cells p nan) place

-- the first n common rows were written
pub record AreRowsShown (scale : Scale) (columns rows : Overlap) (values : Grid Float) (old new : Grid ℤ) (n : ℕ) : Type 0 where
  pub width : new.width ≡ old.width
  pub height : new.height ≡ old.height
  pub full : IsFull new
  pub inside : (k m : ℕ) → k < columns.count → m < n → at new (columns.back + k) (rows.back + m)
      ≡ shown scale (value_at values (columns.back + k) (rows.back + m))
  pub outside : (x y : ℕ) → x < old.width → y < old.height → Apart columns rows n x y → at new x y ≡ at old x y

pub no_rows : (scale : Scale) (columns rows : Overlap) (values : Grid Float) (old : Grid ℤ) → IsFull old → AreRowsShown scale columns rows values old old 0
no_rows scale columns rows values old full = record {
  width = refl;
  height = refl;
  full = full;
  inside = λ k m h l. absurd (omega (arith, l));
  outside = λ x y h k o. refl;
}

module _ (scale : Scale) (columns rows : Overlap) (values : Grid Float) (old g : Grid ℤ) (n : ℕ) (so_far : AreRowsShown scale columns rows values old g n)
    (in_columns : columns.back + columns.count ≤ old.width) (in_rows : rows.back + n < old.height) (samples : List Float) (vs : List ℤ)
    (samples_at : (i : ℕ) → i < columns.count → get_or samples i nan ≡ value_at values (columns.back + i) (rows.back + n))
    (long : length samples ≡ columns.count) (mix : IsRowShown scale samples columns.back (row g (rows.back + n)) vs) where
  line : rows.back + n < g.height
  line = let e = so_far.height in omega (arith, in_rows, e)

  wide : length vs ≡ g.width
  wide = mix.same ∙ length-row g so_far.full (rows.back + n) line

  column : (x : ℕ) → x < old.width → x < g.width
  column x h = let e = so_far.width in omega (arith, h, e)

  before : (x : ℕ) → x < old.width → get_or (row g (rows.back + n)) x (pos 0) ≡ at old x (rows.back + n)
  before x h = at_row g x (rows.back + n) so_far.full (column x h) line ∙ so_far.outside x (rows.back + n) h in_rows (inl (inr (omega arith)))

  now_inside : (k : ℕ) → k < columns.count → at (with_row g (rows.back + n) vs) (columns.back + k) (rows.back + n)
      ≡ shown scale (value_at values (columns.back + k) (rows.back + n))
  now_inside k h =
      let left : columns.back + k < old.width = omega (arith, h, in_columns) in
      at_same g so_far.full (rows.back + n) line vs wide (columns.back + k) (column (columns.back + k) left) ∙ mix.inside k (omega (arith, h, long)) ∙ ap (λ (v : Float). shown scale v) (samples_at k h)

  other : (x y : ℕ) → x < old.width → y < old.height → y ≢ rows.back + n → at (with_row g (rows.back + n) vs) x y ≡ at g x y
  other x y h k ne = at_other g so_far.full (rows.back + n) line vs wide x y (column x h) (let e = so_far.height in omega (arith, k, e)) ne

  inside_by : (k m : ℕ) → k < columns.count → m < n + 1 → (m < n) ⊎ (n ≤ m) → at (with_row g (rows.back + n) vs) (columns.back + k) (rows.back + m)
      ≡ shown scale (value_at values (columns.back + k) (rows.back + m))
  inside_by k m h l (inl lt) =
      other (columns.back + k) (rows.back + m) (omega (arith, h, in_columns)) (omega (arith, lt, in_rows)) (λ e. omega (arith, e, lt)) ∙ so_far.inside k m h lt
  inside_by k m h l (inr ge) = let same : m ≡ n = omega (arith, l, ge) in rw same (now_inside k h)

  beside : (x y : ℕ) → x < old.width → y < old.height → (x < columns.back) ⊎ (columns.back + columns.count ≤ x) → (y ≡ rows.back + n) ⊎ (y ≢ rows.back + n) →
      at (with_row g (rows.back + n) vs) x y ≡ at old x y
  beside x y h k side (inr ne) = other x y h k ne ∙ so_far.outside x y h k (inr side)
  beside x y h k side (inl same) =
      rw same (at_same g so_far.full (rows.back + n) line vs wide x (column x h) ∙ mix.outside x (in_length side) ∙ before x h)
    where
      in_length : (x < columns.back) ⊎ (columns.back + columns.count ≤ x) → (x < columns.back) ⊎ (columns.back + length samples ≤ x)
      in_length (inl a) = inl a
      in_length (inr a) = inr (omega (arith, a, long))

  outside_by : (x y : ℕ) → x < old.width → y < old.height → Apart columns rows (n + 1) x y → at (with_row g (rows.back + n) vs) x y ≡ at old x y
  outside_by x y h k (inl (inl above)) = other x y h k (λ e. omega (arith, e, above)) ∙ so_far.outside x y h k (inl (inl above))
  outside_by x y h k (inl (inr under)) = other x y h k (λ e. omega (arith, e, under)) ∙ so_far.outside x y h k (inl (inr (omega (arith, under))))
  outside_by x y h k (inr side) = beside x y h k side (cases_eq y (rows.back + n))

  pub rows_more : AreRowsShown scale columns rows values old (with_row g (rows.back + n) vs) (n + 1)
  rows_more = record {
    width = so_far.width;
    height = so_far.height;
    full = still_full g so_far.full (rows.back + n) line vs wide;
    inside = λ k m h l. inside_by k m h l (cases_lt m n);
    outside = outside_by;
  }

module _ (scale : Scale) (x0 y0 : ℤ) (columns rows : Overlap) (width height : ℕ) (values : Grid Float) (old new : Grid ℤ) (across : IsOverlap x0 width old.width columns)
    (down : IsOverlap y0 height old.height rows) (all : AreRowsShown scale columns rows values old new rows.count) where
  placed : (i j x y k m : ℕ) → k < columns.count → m < rows.count → x ≡ columns.back + k → y ≡ rows.back + m → i ≡ columns.front + k → j ≡ rows.front + m →
      at new x y ≡ shown scale (value_at values x y)
  placed i j x y k m h l ex ey ei ej = rw (ex, ey) (all.inside k m h l)

  same_index : (z : ℤ) (i x f k : ℕ) → LiesOn z i x → LiesOn z f k → x ≡ k → i ≡ f
  same_index z i x f k p q e = omega (arith, ints, p, q, e)

  covered : (i j x y : ℕ) → i < width → j < height → x < old.width → y < old.height → LiesOn x0 i x → LiesOn y0 j y →
      at new x y ≡ shown scale (value_at values x y)
  covered i j x y hi hj hx hy ox oy =
      let p = across.all i x hi hx ox in
      let q = down.all j y hj hy oy in
      placed i j x y p.0 q.0 p.1 q.1 p.2 q.2 (same_index x0 i x (columns.front + p.0) (columns.back + p.0) ox (across.lies p.0 p.1) p.2)
      (same_index y0 j y (rows.front + q.0) (rows.back + q.0) oy (down.lies q.0 q.1) q.2)

  at_column : (z : ℤ) (o : Overlap) (x : ℕ) → ((k : ℕ) → k < o.count → LiesOn z (o.front + k) (o.back + k)) → o.back ≤ x → x < o.back + o.count → LiesOn z (o.front + (x - o.back)) x
  at_column z o x lies h l =
      let e : o.back + (x - o.back) ≡ x = omega (arith, h) in
      let P : ℕ → Type 0 = λ v. LiesOn z (o.front + (x - o.back)) v in
      subst P e (lies (x - o.back) (omega (arith, h, l)))

  by_cases : (x y : ℕ) → x < old.width → y < old.height → ((i j : ℕ) → i < width → j < height → LiesOn x0 i x → LiesOn y0 j y → ⊥) → (x < columns.back) ⊎ (columns.back ≤ x) →
      (x < columns.back + columns.count) ⊎ (columns.back + columns.count ≤ x) → (y < rows.back) ⊎ (rows.back ≤ y) → (y < rows.back + rows.count) ⊎ (rows.back + rows.count ≤ y) → at new x y ≡ at old x y
  by_cases x y hx hy none (inl a) c d e = all.outside x y hx hy (inr (inl a))
  by_cases x y hx hy none (inr a) (inr c) d e = all.outside x y hx hy (inr (inr c))
  by_cases x y hx hy none (inr a) (inl c) (inl d) e = all.outside x y hx hy (inl (inl d))
  by_cases x y hx hy none (inr a) (inl c) (inr d) (inr e) = all.outside x y hx hy (inl (inr e))
  by_cases x y hx hy none (inr a) (inl c) (inr d) (inl e) =
      let w = across.in_front (omega (arith, a, c)) in
      let v = down.in_front (omega (arith, d, e)) in
      absurd (none (columns.front + (x - columns.back)) (rows.front + (y - rows.back)) (omega (arith, w, a, c)) (omega (arith, v, d, e)) (at_column x0 columns x across.lies a c)
      (at_column y0 rows y down.lies d e))

  pub grid_shown : IsShownUnder scale x0 y0 width height values old new
  grid_shown = record {
    new_width = all.width;
    new_height = all.height;
    inside = covered;
    outside = λ x y hx hy none.
        by_cases x y hx hy none (cases_lt x columns.back) (cases_lt x (columns.back + columns.count)) (cases_lt y rows.back) (cases_lt y (rows.back + rows.count));
  }

-- no column is common
pub nothing_shown : (scale : Scale) (x0 y0 : ℤ) (columns : Overlap) (width height : ℕ) (values : Grid Float) (old : Grid ℤ) → IsOverlap x0 width old.width columns → columns.count ≡ 0 → IsShownUnder scale x0 y0 width height values old old
nothing_shown scale x0 y0 columns width height values old across none = record {
  new_width = refl;
  new_height = refl;
  inside = λ i j x y hi hj hx hy ox oy. let p = across.all i x hi hx ox in let l = p.1 in absurd (omega (arith, l, none));
  outside = λ x y h k o. refl;
}
