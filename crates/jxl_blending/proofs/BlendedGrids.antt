-- Grids while a frame is blended into them, row by row.
use Rattle.std.proofs.Common.{◌≡◌, ◌≢◌, ℕ, ℤ, pos, ◌+◌, ◌-◌, ◌*◌, ◌<◌, ◌≤◌, List, length, get_or, ◌⊎◌, inl, inr, refl, sym, ap, subst, ◌∙◌, arith}
use Rattle.std.specs.Float.{Float, nan}
use Rattle.std.proofs.lemmas.Bool.{cases_lt, cases_eq}
use Rattle.std.proofs.lemmas.Int.{ints}
use Rattle.std.proofs.lemmas.Nat.{mul-le}
use Rattle.jxlm_base.specs.Grid.{Grid, at, grid, IsFull}
use Rattle.jxl_blending.specs.Blends.{blended_value, parts_of}
use Rattle.jxl_blending.specs.Overlaps.{LiesOn, IsOverlap, IsBlended, parts, point}
use Rattle.jxl_blending.specs.SingleGrids.{value_at}
use Rattle.jxl_blending.specs.Inner.Rows.{IsRowBlended}
use Rattle.jxl_blending.specs.declared.blending.ChannelBlending.{ChannelBlending}
use Rattle.jxl_blending.specs.declared.blending.Parts.{Parts}
use Rattle.jxl_blending.specs.declared.overlap.Overlap.{Overlap}
use Rattle.jxl_blending.proofs.BlendedRows.{same_points}

-- a cell lies in none of the first n common rows, or in no common column
abbrev pub Apart : Overlap → Overlap → ℕ → ℕ → ℕ → Type 0
Apart columns rows n x y = ((y < rows.back) ⊎ (rows.back + n ≤ y)) ⊎ ((x < columns.back) ⊎ (columns.back + columns.count ≤ x))

-- the first n common rows were blended
pub record AreRowsBlended (b : ChannelBlending) (columns rows : Overlap) (front front_alpha : Grid ℤ) (back_alpha old new : Grid Float) (n : ℕ) : Type 0 where
  pub width : new.width ≡ old.width
  pub height : new.height ≡ old.height
  pub full : IsFull new
  pub inside : (k m : ℕ) → k < columns.count → m < n → value_at new (columns.back + k) (rows.back + m)
      ≡ blended_value b (parts_of b (point front front_alpha (columns.front + k) (rows.front + m))) (parts old back_alpha (columns.back + k) (rows.back + m))
  pub outside : (x y : ℕ) → x < old.width → y < old.height → Apart columns rows n x y → value_at new x y ≡ value_at old x y

pub no_rows : (b : ChannelBlending) (columns rows : Overlap) (front front_alpha : Grid ℤ) (back_alpha old : Grid Float) → IsFull old → AreRowsBlended b columns rows front front_alpha back_alpha old old 0
no_rows b columns rows front front_alpha back_alpha old full = record {
  width = refl;
  height = refl;
  full = full;
  inside = λ k m h l. absurd (omega (arith, l));
  outside = λ x y h k o. refl;
}

-- cells of other rows, and of other columns, have other places
above : (x y line w first : ℕ) → x < w → y < line → y * w + x < line * w + first
above x y line w first h lt = let one = mul-le (y + 1) w line w (omega (arith, lt)) (omega arith) in let two : (y + 1) * w ≡ y * w + w = omega arith in omega (arith, one, two, h)

under : (x y line w first count : ℕ) → first + count ≤ w → line < y → line * w + first + count ≤ y * w + x
under x y line w first count h lt = let one = mul-le (line + 1) w y w (omega (arith, lt)) (omega arith) in let two : (line + 1) * w ≡ line * w + w = omega arith in omega (arith, one, two, h)

-- a part of a row fits
pub fits_row : (first count line w h : ℕ) → first + count ≤ w → line < h → line * w + first + count ≤ w * h
fits_row first count line w h fits lt = let one = mul-le (line + 1) w h w (omega (arith, lt)) (omega arith) in let two : (line + 1) * w ≡ line * w + w = omega arith in let same : h * w ≡ w * h = omega arith in omega (arith, one, two, same, fits)

-- the same values of the picture
same_parts : (b : ChannelBlending) (front : Parts) (u v d e : Float) → u ≡ v → d ≡ e → blended_value b front (record { sample = u; alpha = d }) ≡ blended_value b front (record { sample = v; alpha = e })
same_parts b front u v d e p q =
    ap (λ (z : Float). blended_value b front (record { sample = z; alpha = d })) p
    ∙ ap (λ (z : Float). blended_value b front (record { sample = v; alpha = z })) q

module _ (b : ChannelBlending) (columns rows : Overlap) (front front_alpha : Grid ℤ) (back_alpha old g : Grid Float) (n : ℕ) (so_far : AreRowsBlended b columns rows front front_alpha back_alpha old g n)
    (in_columns : columns.back + columns.count ≤ old.width) (in_rows : rows.back + n < old.height) (samples alphas : List ℤ) (vs : List Float)
    (samples_at : (i : ℕ) → i < columns.count → get_or samples i (pos 0) ≡ at front (columns.front + i) (rows.front + n))
    (alphas_at : (i : ℕ) → i < columns.count → get_or alphas i (pos 0) ≡ at front_alpha (columns.front + i) (rows.front + n))
    (alpha_wide : back_alpha.width ≡ old.width) (long : length samples ≡ columns.count)
    (mix : IsRowBlended b ((rows.back + n) * old.width + columns.back) samples alphas back_alpha.cells g.cells vs) where
  abbrev start : ℕ
  start = (rows.back + n) * g.width + columns.back

  mixed : IsRowBlended b start samples alphas back_alpha.cells g.cells vs
  mixed = subst (λ (w : ℕ). IsRowBlended b ((rows.back + n) * w + columns.back) samples alphas back_alpha.cells g.cells vs) (sym so_far.width) mix

  abbrev new : Grid Float
  new = grid g.width g.height vs

  column : (x : ℕ) → x < old.width → x < g.width
  column x h = let e = so_far.width in omega (arith, h, e)

  before : (x : ℕ) → x < old.width → value_at g x (rows.back + n) ≡ value_at old x (rows.back + n)
  before x h = so_far.outside x (rows.back + n) h in_rows (inl (inr (omega arith)))

  place_is : (w k : ℕ) → w ≡ g.width → start + k ≡ (rows.back + n) * w + (columns.back + k)
  place_is w k e = rw e (omega arith)

  now_inside : (k : ℕ) → k < columns.count → value_at new (columns.back + k) (rows.back + n)
      ≡ blended_value b (parts_of b (point front front_alpha (columns.front + k) (rows.front + n))) (parts old back_alpha (columns.back + k) (rows.back + n))
  now_inside k h =
      let left : columns.back + k < old.width = omega (arith, h, in_columns) in
      ap (λ (p : ℕ). get_or vs p nan) (sym (place_is g.width k refl)) ∙ mixed.inside k (omega (arith, h, long))
      ∙ same_points b (get_or samples k (pos 0)) (at front (columns.front + k) (rows.front + n)) (get_or alphas k (pos 0)) (at front_alpha (columns.front + k) (rows.front + n))
      (get_or g.cells (start + k) nan) (get_or back_alpha.cells (start + k) nan) (samples_at k h) (alphas_at k h)
      ∙ same_parts b (parts_of b (point front front_alpha (columns.front + k) (rows.front + n))) (get_or g.cells (start + k) nan) (value_at old (columns.back + k) (rows.back + n))
      (get_or back_alpha.cells (start + k) nan) (value_at back_alpha (columns.back + k) (rows.back + n))
      (ap (λ (p : ℕ). get_or g.cells p nan) (place_is g.width k refl) ∙ before (columns.back + k) left)
      (ap (λ (p : ℕ). get_or back_alpha.cells p nan) (place_is back_alpha.width k (alpha_wide ∙ sym so_far.width)))

  short : (i : ℕ) → start + columns.count ≤ i → start + length samples ≤ i
  short i h = omega (arith, h, long)

  wide : columns.back + columns.count ≤ g.width
  wide = let e = so_far.width in omega (arith, in_columns, e)

  other : (x y : ℕ) → x < old.width → y ≢ rows.back + n → value_at new x y ≡ value_at g x y
  other x y h ne = by (cases_lt y (rows.back + n)) where
    by : (y < rows.back + n) ⊎ (rows.back + n ≤ y) → value_at new x y ≡ value_at g x y
    by (inl lt) = mixed.outside (y * g.width + x) (inl (above x y (rows.back + n) g.width columns.back (column x h) lt))
    by (inr ge) = mixed.outside (y * g.width + x) (inr (short (y * g.width + x) (under x y (rows.back + n) g.width columns.back columns.count wide (omega (arith, ge, ne)))))

  inside_by : (k m : ℕ) → k < columns.count → m < n + 1 → (m < n) ⊎ (n ≤ m) → value_at new (columns.back + k) (rows.back + m)
      ≡ blended_value b (parts_of b (point front front_alpha (columns.front + k) (rows.front + m))) (parts old back_alpha (columns.back + k) (rows.back + m))
  inside_by k m h l (inl lt) = other (columns.back + k) (rows.back + m) (omega (arith, h, in_columns)) (λ e. omega (arith, e, lt)) ∙ so_far.inside k m h lt
  inside_by k m h l (inr ge) = let same : m ≡ n = omega (arith, l, ge) in rw same (now_inside k h)

  on_line : (x : ℕ) → (x < columns.back) ⊎ (columns.back + columns.count ≤ x) → value_at new x (rows.back + n) ≡ value_at g x (rows.back + n)
  on_line x (inl lt) = mixed.outside ((rows.back + n) * g.width + x) (inl (omega (arith, lt)))
  on_line x (inr ge) = mixed.outside ((rows.back + n) * g.width + x) (inr (short ((rows.back + n) * g.width + x) (omega (arith, ge))))

  beside : (x y : ℕ) → x < old.width → y < old.height → (x < columns.back) ⊎ (columns.back + columns.count ≤ x) → (y ≡ rows.back + n) ⊎ (y ≢ rows.back + n) → value_at new x y ≡ value_at old x y
  beside x y h k side (inr ne) = other x y h ne ∙ so_far.outside x y h k (inr side)
  beside x y h k side (inl same) = rw same (on_line x side ∙ before x h)

  outside_by : (x y : ℕ) → x < old.width → y < old.height → Apart columns rows (n + 1) x y → value_at new x y ≡ value_at old x y
  outside_by x y h k (inl (inl over)) = other x y h (λ e. omega (arith, e, over)) ∙ so_far.outside x y h k (inl (inl over))
  outside_by x y h k (inl (inr below)) = other x y h (λ e. omega (arith, e, below)) ∙ so_far.outside x y h k (inl (inr (omega (arith, below))))
  outside_by x y h k (inr side) = beside x y h k side (cases_eq y (rows.back + n))

  pub rows_more : AreRowsBlended b columns rows front front_alpha back_alpha old new (n + 1)
  rows_more = record {
    width = so_far.width;
    height = so_far.height;
    full = mixed.same ∙ so_far.full;
    inside = λ k m h l. inside_by k m h l (cases_lt m n);
    outside = outside_by;
  }

module _ (b : ChannelBlending) (x0 y0 : ℤ) (columns rows : Overlap) (front front_alpha : Grid ℤ) (back_alpha old new : Grid Float) (across : IsOverlap x0 front.width old.width columns)
    (down : IsOverlap y0 front.height old.height rows) (all : AreRowsBlended b columns rows front front_alpha back_alpha old new rows.count) where
  placed : (i j x y k m : ℕ) → k < columns.count → m < rows.count → x ≡ columns.back + k → y ≡ rows.back + m → i ≡ columns.front + k → j ≡ rows.front + m →
      value_at new x y ≡ blended_value b (parts_of b (point front front_alpha i j)) (parts old back_alpha x y)
  placed i j x y k m h l ex ey ei ej = rw (ex, ey, ei, ej) (all.inside k m h l)

  same_index : (z : ℤ) (i x f k : ℕ) → LiesOn z i x → LiesOn z f k → x ≡ k → i ≡ f
  same_index z i x f k p q e = omega (arith, ints, p, q, e)

  covered : (i j x y : ℕ) → i < front.width → j < front.height → x < old.width → y < old.height → LiesOn x0 i x → LiesOn y0 j y →
      value_at new x y ≡ blended_value b (parts_of b (point front front_alpha i j)) (parts old back_alpha x y)
  covered i j x y hi hj hx hy ox oy =
      let p = across.all i x hi hx ox in
      let q = down.all j y hj hy oy in
      placed i j x y p.0 q.0 p.1 q.1 p.2 q.2 (same_index x0 i x (columns.front + p.0) (columns.back + p.0) ox (across.lies p.0 p.1) p.2)
      (same_index y0 j y (rows.front + q.0) (rows.back + q.0) oy (down.lies q.0 q.1) q.2)

  at_column : (z : ℤ) (o : Overlap) (x : ℕ) → ((k : ℕ) → k < o.count → LiesOn z (o.front + k) (o.back + k)) → o.back ≤ x → x < o.back + o.count → LiesOn z (o.front + (x - o.back)) x
  at_column z o x lies h l =
      let e : o.back + (x - o.back) ≡ x = omega (arith, h) in
      let P : ℕ → Type 0 = λ v. LiesOn z (o.front + (x - o.back)) v in
      subst P e (lies (x - o.back) (omega (arith, h, l)))

  by_cases : (x y : ℕ) → x < old.width → y < old.height → ((i j : ℕ) → i < front.width → j < front.height → LiesOn x0 i x → LiesOn y0 j y → ⊥) → (x < columns.back) ⊎ (columns.back ≤ x) →
      (x < columns.back + columns.count) ⊎ (columns.back + columns.count ≤ x) → (y < rows.back) ⊎ (rows.back ≤ y) → (y < rows.back + rows.count) ⊎ (rows.back + rows.count ≤ y) → value_at new x y ≡ value_at old x y
  by_cases x y hx hy none (inl a) c d e = all.outside x y hx hy (inr (inl a))
  by_cases x y hx hy none (inr a) (inr c) d e = all.outside x y hx hy (inr (inr c))
  by_cases x y hx hy none (inr a) (inl c) (inl d) e = all.outside x y hx hy (inl (inl d))
  by_cases x y hx hy none (inr a) (inl c) (inr d) (inr e) = all.outside x y hx hy (inl (inr e))
  by_cases x y hx hy none (inr a) (inl c) (inr d) (inl e) =
      let w = across.in_front (omega (arith, a, c)) in
      let v = down.in_front (omega (arith, d, e)) in
      absurd (none (columns.front + (x - columns.back)) (rows.front + (y - rows.back)) (omega (arith, w, a, c)) (omega (arith, v, d, e)) (at_column x0 columns x across.lies a c)
      (at_column y0 rows y down.lies d e))

  pub grid_blended : IsBlended b x0 y0 front front_alpha back_alpha old new
  grid_blended = record {
    width = all.width;
    height = all.height;
    full = all.full;
    inside = covered;
    outside = λ x y hx hy none.
        by_cases x y hx hy none (cases_lt x columns.back) (cases_lt x (columns.back + columns.count)) (cases_lt y rows.back) (cases_lt y (rows.back + rows.count));
  }

-- no column is common
pub nothing_blended : (b : ChannelBlending) (x0 y0 : ℤ) (columns : Overlap) (front front_alpha : Grid ℤ) (back_alpha old : Grid Float) → IsFull old → IsOverlap x0 front.width old.width columns → columns.count ≡ 0 →
    IsBlended b x0 y0 front front_alpha back_alpha old old
nothing_blended b x0 y0 columns front front_alpha back_alpha old full across none = record {
  width = refl;
  height = refl;
  full = full;
  inside = λ i j x y hi hj hx hy ox oy. let p = across.all i x hi hx ox in let l = p.1 in absurd (omega (arith, l, none));
  outside = λ x y h k o. refl;
}

-- an overlap of numbers that are called otherwise
pub same_overlap : (z y : ℤ) (f front b back : ℕ) (o : Overlap) → z ≡ y → f ≡ front → b ≡ back → IsOverlap z f b o → IsOverlap y front back o
same_overlap z y f front b back o e p q h =
    let P : ℤ → Type 0 = λ v. IsOverlap v front back o in
    let Q : ℕ → Type 0 = λ v. IsOverlap z v back o in
    let R : ℕ → Type 0 = λ v. IsOverlap z f v o in
    subst P e (subst Q p (subst R q h))
