-- Rows of regions, read and written whole.
use Rattle.std.proofs.Common.{◌≡◌, ◌≢◌, ℕ, zero, suc, ◌+◌, ◌-◌, ◌*◌, ◌<◌, ◌≤◌, inl, inr, List, [], ◌∷◌, ◌++◌, length, take, drop, refl, sym, ap, ◌∙◌, subst, arith}
use Rattle.std.specs.Prelude.{get_or, slice_get, slice_set, slice_range}
use Rattle.std.proofs.Math.ListN.{length-set}
use Rattle.std.proofs.Math.Nat.{mul_comm}
use Rattle.std.proofs.Math.Seq.{drop-length, take-length}
use Rattle.std.proofs.lemmas.Bool.{cases_eq, cases_lt}
use Rattle.std.proofs.lemmas.List.{get_or-set_same, get_or-set_other, get_or_default, append-nil, drop-drop, length-append, length-take-le, length-drop}
use Rattle.std.proofs.lemmas.Nat.{mul-le}
use Rattle.jxlm_base.specs.Grid.{Grid, grid, cell, row, written, with_row, IsFull}
use Rattle.jxlm_base.specs.Outside.{buffer_at, row_of, KeepsOutside, SetsRow}
use Rattle.jxlm_base.specs.Regions.{Region, buffer_of, region_cell, Lies, HasCell}
use Rattle.jxlm_base.proofs.Cells.{place_within}

-- ---- the elements of parts of lists

module _ {S : Type 0} where
  get_append_left : (xs ys : List S) (k : ℕ) → k < length xs → slice_get (xs ++ ys) k ≡ slice_get xs k
  get_append_left [] ys k h = absurd (omega arith)
  get_append_left (x ∷ xs) ys zero h = refl
  get_append_left (x ∷ xs) ys (suc k) h = get_append_left xs ys k (omega arith)

  get_append_right : (xs ys : List S) (j k : ℕ) → j ≡ length xs + k → slice_get (xs ++ ys) j ≡ slice_get ys k
  get_append_right [] ys j k e = let is : j ≡ k = omega arith in ap (slice_get ys) is
  get_append_right (x ∷ xs) ys zero k e = absurd (omega arith)
  get_append_right (x ∷ xs) ys (suc j) k e = get_append_right xs ys j k (omega arith)

  get_take : (n : ℕ) (xs : List S) (k : ℕ) → k < n → slice_get (take n xs) k ≡ slice_get xs k
  get_take zero xs k h = absurd (omega arith)
  get_take (suc n) [] k h = refl
  get_take (suc n) (x ∷ xs) zero h = refl
  get_take (suc n) (x ∷ xs) (suc k) h = get_take n xs k (omega arith)

  get_drop : (n : ℕ) (xs : List S) (k j : ℕ) → j ≡ n + k → slice_get (drop n xs) k ≡ slice_get xs j
  get_drop zero xs k j e = let is : k ≡ j = omega arith in ap (slice_get xs) is
  get_drop (suc n) [] k j e = refl
  get_drop (suc n) (x ∷ xs) k zero e = absurd (omega arith)
  get_drop (suc n) (x ∷ xs) k (suc j) e = get_drop n xs k j (omega arith)

  pub get_part : (xs : List S) (a n k : ℕ) → k < n → slice_get (slice_range xs a (a + n)) k ≡ slice_get xs (a + k)
  get_part xs a n k h = get_take (a + n - a) (drop a xs) k (omega arith) ∙ get_drop a xs k (a + k) refl

  pub length-part : (xs : List S) (a n : ℕ) → a + n ≤ length xs → length (slice_range xs a (a + n)) ≡ n
  length-part xs a n h =
      let rest = length-drop a xs in
      let is : a + n - a ≡ n = omega arith in
      length-take-le (a + n - a) (drop a xs) (omega (arith, rest)) ∙ is

-- ---- a list with others written over it

module _ {S : Type 0} (xs : List S) (i : ℕ) (vs : List S) (fits : i + length vs ≤ length xs) where
  abbrev after_it : List S
  after_it = drop (length vs) (drop i xs)

  abbrev pasted : List S
  pasted = take i xs ++ (vs ++ after_it)

  length-pasted : length pasted ≡ length xs
  length-pasted =
      omega (arith, length-append (take i xs) (vs ++ after_it), length-append vs after_it, length-take-le i xs (omega arith), length-drop i xs, length-drop (length vs) (drop i xs))

  get_pasted : (j : ℕ) → j < length xs → slice_get (written xs i vs) j ≡ slice_get pasted j
  get_pasted j h =
      get_take (length xs) (pasted ++ drop (length pasted) xs) j h
      ∙ get_append_left pasted (drop (length pasted) xs) j (omega (arith, length-pasted))

  pub length-written : length (written xs i vs) ≡ length xs
  length-written = length-take-le (length xs) (pasted ++ drop (length pasted) xs) (omega (arith, length-append pasted (drop (length pasted) xs), length-pasted))

  -- where the others fit, nothing is left out
  pub written_is : written xs i vs ≡ take i xs ++ (vs ++ drop (i + length vs) xs)
  written_is =
      ap (λ n. take (length xs) (pasted ++ drop n xs)) length-pasted ∙ ap (λ ys. take (length xs) (pasted ++ ys)) (drop-length xs)
      ∙ ap (take (length xs)) (append-nil pasted) ∙ ap (λ n. take n pasted) (sym length-pasted) ∙ take-length pasted
      ∙ ap (λ ys. take i xs ++ (vs ++ ys)) (drop-drop (length vs) i xs)

  pub written_inside : (j k : ℕ) → j ≡ i + k → k < length vs → slice_get (written xs i vs) j ≡ slice_get vs k
  written_inside j k e h =
      get_pasted j (omega arith) ∙ get_append_right (take i xs) (vs ++ after_it) j k (omega (arith, length-take-le i xs (omega arith)))
      ∙ get_append_left vs after_it k h

  pub written_outside : (j : ℕ) → j < length xs → (i ≤ j → j < i + length vs → ⊥) → slice_get (written xs i vs) j ≡ slice_get xs j
  written_outside j h out =
      let front : length (take i xs) ≡ i = length-take-le i xs (omega arith) in
      elim (cases_lt j i) [
        | inl lt ↦ get_pasted j h ∙ get_append_left (take i xs) (vs ++ after_it) j (omega (arith, front)) ∙ get_take i xs j lt
        | inr ge ↦
            elim (cases_lt j (i + length vs)) [
              | inl lt ↦ absurd (out ge lt)
              | inr past ↦
                  get_pasted j h ∙ get_append_right (take i xs) (vs ++ after_it) j (j - i) (omega (arith, front))
                  ∙ get_append_right vs after_it (j - i) (j - i - length vs) (omega arith)
                  ∙ get_drop (length vs) (drop i xs) (j - i - length vs) (j - i) (omega arith) ∙ get_drop i xs (j - i) j (omega arith)
            ]
      ]

-- ---- rows of grids

module _ {S : Type 0} (g : Grid S) (full : IsFull g) (y : ℕ) (below : y < g.height) where
  row_inside : y * g.width + g.width ≤ length g.cells
  row_inside = omega (arith, mul-le (suc y) g.width g.height g.width (omega arith) (omega arith), mul_comm g.height g.width, full)

  pub length-row : length (row g y) ≡ g.width
  length-row = length-part g.cells (y * g.width) g.width row_inside

  pub get_row : (x : ℕ) → x < g.width → slice_get (row g y) x ≡ cell g x y
  get_row x h = get_part g.cells (y * g.width) g.width x h

  module _ (vs : List S) (long : length vs ≡ g.width) where
    row_fits : y * g.width + length vs ≤ length g.cells
    row_fits = omega (arith, row_inside, long)

    pub cell-with_row_same : (x : ℕ) → x < g.width → cell (with_row g y vs) x y ≡ slice_get vs x
    cell-with_row_same x h = written_inside g.cells (y * g.width) vs row_fits (y * g.width + x) x refl (omega (arith, long))

    pub cell-with_row_other : (x j : ℕ) → x < g.width → j < g.height → j ≢ y → cell (with_row g y vs) x j ≡ cell g x j
    cell-with_row_other x j p q ne =
        written_outside g.cells (y * g.width) vs row_fits (j * g.width + x) (place_within g x j full p q) (λ a b.
        elim (cases_lt j y) [
          | inl lt ↦ absurd (omega (arith, mul-le (suc j) g.width y g.width (omega arith) (omega arith)))
          | inr ge ↦ absurd (omega (arith, long, mul-le (suc y) g.width j g.width (omega arith) (omega arith)))
        ])

    pub IsFull-with_row : IsFull (with_row g y vs)
    IsFull-with_row = length-written g.cells (y * g.width) vs row_fits ∙ full

-- ---- rows of regions

module _ {S : Type 0} (store : List (Grid S)) (r : Region) (y : ℕ) (lies : Lies r store) (below : y < r.height) where
  -- the row's buffer, and its line there
  abbrev buffer : Grid S
  buffer = buffer_of store r

  abbrev line : ℕ
  line = r.y + y

  line_below : line < buffer.height
  line_below = let rows = lies.rows in omega arith

  pub get_region_row : (x : ℕ) → x < r.width → region_cell store r x y ≡ slice_get (slice_range (row buffer line) r.x (r.x + r.width)) x
  get_region_row x h =
      let columns = lies.columns in
      sym (get_part (row buffer line) r.x r.width x h ∙ get_row buffer lies.full line line_below (r.x + x) (omega arith))

  pub length-region_row : length (slice_range (row buffer line) r.x (r.x + r.width)) ≡ r.width
  length-region_row = let columns = lies.columns in length-part (row buffer line) r.x r.width (omega (arith, length-row buffer lies.full line line_below))

  module _ (vs : List S) (long : length vs ≡ r.width) where
    abbrev new_row : List S
    new_row = written (row buffer line) r.x vs

    abbrev new_buffer : Grid S
    new_buffer = with_row buffer line new_row

    abbrev new_store : List (Grid S)
    new_store = slice_set store r.buffer new_buffer

    row_takes : r.x + length vs ≤ length (row buffer line)
    row_takes = let columns = lies.columns in omega (arith, long, length-row buffer lies.full line line_below)

    row_long : length new_row ≡ buffer.width
    row_long = length-written (row buffer line) r.x vs row_takes ∙ length-row buffer lies.full line line_below

    at_same : buffer_at new_store r.buffer ≡ new_buffer
    at_same = get_or-set_same store r.buffer new_buffer (grid 0 0 []) lies.there

    at_other : (b : ℕ) → b ≢ r.buffer → buffer_at new_store b ≡ buffer_at store b
    at_other b ne = get_or-set_other store r.buffer b new_buffer (grid 0 0 []) ne

    -- a cell of the buffer outside the row
    cell_kept : (i j : ℕ) → i < buffer.width → j < buffer.height → (HasCell (row_of r y) r.buffer i j → ⊥) → cell new_buffer i j ≡ cell buffer i j
    cell_kept i j p q out =
        elim (cases_eq j line) [
          | inl e ↦
              ap (cell new_buffer i) e ∙ cell-with_row_same buffer lies.full line line_below new_row row_long i p
              ∙ written_outside (row buffer line) r.x vs row_takes i (omega (arith, length-row buffer lies.full line line_below))
              (λ a b. out (record { buffer = refl; left = a; right = omega (arith, long); top = omega arith; bottom = omega arith }))
              ∙ get_row buffer lies.full line line_below i p ∙ ap (cell buffer i) (sym e)
          | inr ne ↦ cell-with_row_other buffer lies.full line line_below new_row row_long i j p q ne
        ]

    keeps : KeepsOutside (row_of r y ∷ []) store new_store
    keeps = record {
      count = length-set store r.buffer new_buffer;
      width = λ b. elim (cases_eq b r.buffer) [
        | inl e ↦ ap (λ n. (buffer_at new_store n).width) e ∙ ap (λ g. g.width) at_same ∙ ap (λ n. (buffer_at store n).width) (sym e)
        | inr ne ↦ ap (λ g. g.width) (at_other b ne)
      ];
      height = λ b. elim (cases_eq b r.buffer) [
        | inl e ↦ ap (λ n. (buffer_at new_store n).height) e ∙ ap (λ g. g.height) at_same ∙ ap (λ n. (buffer_at store n).height) (sym e)
        | inr ne ↦ ap (λ g. g.height) (at_other b ne)
      ];
      full = λ b h. elim (cases_eq b r.buffer) [
        | inl e ↦ subst (λ n. IsFull (buffer_at new_store n)) (sym e) (subst IsFull (sym at_same) (IsFull-with_row buffer lies.full line line_below new_row row_long))
        | inr ne ↦ subst IsFull (sym (at_other b ne)) h
      ];
      cells = λ b i j p q out. elim (cases_eq b r.buffer) [
        | inl e ↦
            ap (λ n. cell (buffer_at new_store n) i j) e ∙ ap (λ g. cell g i j) at_same
            ∙ cell_kept i j (subst (λ n. i < (buffer_at store n).width) e p) (subst (λ n. j < (buffer_at store n).height) e q)
            (λ h. out 0 r (omega arith) (subst (λ n. HasCell (row_of r y) n i j) (sym e) h))
            ∙ ap (λ n. cell (buffer_at store n) i j) (sym e)
        | inr ne ↦ ap (λ g. cell g i j) (at_other b ne)
      ];
    }

    pub sets_row : SetsRow r y vs store new_store
    sets_row = record {
      cells = λ x h.
          let columns = lies.columns in
          ap (λ g. cell g (r.x + x) line) at_same ∙ cell-with_row_same buffer lies.full line line_below new_row row_long (r.x + x) (omega arith)
          ∙ written_inside (row buffer line) r.x vs row_takes (r.x + x) x refl (omega (arith, long));
      keeps = keeps;
    }

    -- the buffer as it was read, and its row as it was left
    pub set_row : (d : Grid S) (now after : List S) → now ≡ row (get_or store r.buffer d) line → after ≡ take r.x now ++ (vs ++ drop (r.x + r.width) now) →
        SetsRow r y vs store (slice_set store r.buffer (with_row (get_or store r.buffer d) line after))
    set_row d now after was is =
        let same : get_or store r.buffer d ≡ buffer = get_or_default store r.buffer d (grid 0 0 []) lies.there in
        let is_row : after ≡ new_row =
        is ∙ ap (λ n. take r.x now ++ (vs ++ drop (r.x + n) now)) (sym long) ∙ ap (λ xs. take r.x xs ++ (vs ++ drop (r.x + length vs) xs)) (was ∙ ap (λ g. row g line) same)
        ∙ sym (written_is (row buffer line) r.x vs row_takes) in
        subst (λ g. SetsRow r y vs store (slice_set store r.buffer (with_row g line after))) (sym same)
        (subst (λ xs. SetsRow r y vs store (slice_set store r.buffer (with_row buffer line xs))) (sym is_row) sets_row)
