-- Parts of rows: what is read there, and what a write to one changes.
use Rattle.std.proofs.Common.{◌≡◌, ℕ, suc, ◌+◌, ◌-◌, ◌*◌, ◌<◌, ◌≤◌, ◌⊎◌, inl, inr, List, length, take, drop, ℤ, sym, refl, ap, ◌∙◌, subst, arith}
use Rattle.std.specs.Prelude.{Option, slice_get, slice_range}
use Rattle.std.proofs.Math.Nat.{mul_comm, mul-le-mul_right}
use Rattle.std.proofs.lemmas.Bool.{cases_lt}
use Rattle.std.proofs.lemmas.List.{length-take-le, length-drop}
use Rattle.jxlm_base.specs.Grid.{Grid, at, cell, row, place, written, with_row, meanings, IsFull}
use Rattle.jxlm_base.specs.Subgrid.{IsOutside, IsSameOutside}
use Rattle.jxlm_lanes.specs.Pairs.{number_at}
use Rattle.jxlm_base.proofs.Cells.{place_within}
use Rattle.jxlm_lanes.proofs.NumberAt.{number_same}
use Rattle.jxlm_base.proofs.Parts.{get-written_in, get-written_before, get-written_after, length-written}
use Rattle.jxlm_kernels.proofs.Slices.{get-slice_range}

-- the line after line i ends inside
pub line_within : (i h n room : ℕ) → i < h → (h + 1) * n ≤ room → i * n + n + n ≤ room
line_within i h n room p r = let m = mul-le-mul_right {m = i + 2} {n = h + 1} n (omega arith) in omega arith

module _ {S : Type 0} where
  -- a row's last cell is before the end
  row_within : (g : Grid S) (y : ℕ) → IsFull g → y < g.height → y * g.width + g.width ≤ length g.cells
  row_within g y full h =
      let a = mul-le-mul_right {m = suc y} {n = g.height} g.width (omega arith) in
      let b = mul_comm g.width g.height in omega (arith, full)

  pub length-row : (g : Grid S) (y : ℕ) → IsFull g → y < g.height → length (row g y) ≡ g.width
  length-row g y full h =
      let w = row_within g y full h in
      let d = length-drop (y * g.width) g.cells in
      let e : y * g.width + g.width - y * g.width ≡ g.width = omega arith in
      ap (λ n. length (take n (drop (y * g.width) g.cells))) e ∙ length-take-le g.width (drop (y * g.width) g.cells) (omega arith)

  get-row : (g : Grid S) (x y : ℕ) → x < g.width → slice_get (row g y) x ≡ cell g x y
  get-row g x y h = get-slice_range g.cells (y * g.width) (y * g.width + g.width) x (omega arith)

  -- the cells of a part of a row
  pub part_cells : (g : Grid S) (a y n i : ℕ) (xs : List S) → xs ≡ slice_range (row g y) a (a + n) → a + n ≤ g.width → i < n → slice_get xs i ≡ cell g (a + i) y
  part_cells g a y n i xs e fits h = ap (λ zs. slice_get zs i) e ∙ get-slice_range (row g y) a (a + n) i (omega arith) ∙ get-row g (a + i) y (omega arith)

  -- the numbers of a part of a row
  pub part_numbers : (f : S → ℤ) (g : Grid S) (a y n i : ℕ) (xs : List S) → xs ≡ slice_range (row g y) a (a + n) → a + n ≤ g.width → i < n → number_at f xs i ≡ at (meanings f g) (a + i) y
  part_numbers f g a y n i xs e fits h = number_same f xs g.cells i (place g (a + i) y) (part_cells g a y n i xs e fits h)

  module _ (g : Grid S) (full : IsFull g) (a y : ℕ) (vs : List S) (fits : a + length vs ≤ g.width) (inside : y < g.height) where
    abbrev line : List S
    line = written (row g y) a vs

    abbrev pub changed : Grid S
    changed = with_row g y line

    line_len : length line ≡ g.width
    line_len = let n = length-row g y full inside in length-written (row g y) a vs (omega arith) ∙ n

    line_fits : y * g.width + length line ≤ length g.cells
    line_fits = let w = row_within g y full inside in let n = line_len in omega arith

    cell_of_line : (i : ℕ) → i < g.width → cell changed i y ≡ slice_get line i
    cell_of_line i h = let n = line_len in get-written_in g.cells (y * g.width) line i line_fits (omega arith)

    -- the cells that were written
    pub changed_in : (k : ℕ) → k < length vs → cell changed (a + k) y ≡ slice_get vs k
    changed_in k h = let n = length-row g y full inside in cell_of_line (a + k) (omega arith) ∙ get-written_in (row g y) a vs k (omega arith) h

    -- and the others
    other_row : (i j : ℕ) → i < g.width → j < g.height → (j < y) ⊎ (y < j) → cell changed i j ≡ cell g i j
    other_row i j p q o =
        elim o [
          | inl lt ↦
              let m = mul-le-mul_right {m = suc j} {n = y} g.width (omega arith) in
              get-written_before g.cells (y * g.width) line (j * g.width + i) line_fits (omega arith)
          | inr gt ↦
              let m = mul-le-mul_right {m = suc y} {n = j} g.width (omega arith) in
              let n = line_len in
              get-written_after g.cells (y * g.width) line (j * g.width + i) line_fits (omega arith) (place_within g i j full p q)
        ]

    same_row : (i : ℕ) → i < g.width → (i < a) ⊎ (a + length vs ≤ i) → cell changed i y ≡ cell g i y
    same_row i p o =
        let n = length-row g y full inside in
        cell_of_line i p
        ∙ elim o [ inl lt ↦ get-written_before (row g y) a vs i (omega arith) lt | inr ge ↦ get-written_after (row g y) a vs i (omega arith) ge (omega arith) ]
        ∙ get-row g i y p

    pub changed_outside : IsSameOutside a y (length vs) 1 g changed
    changed_outside = record {
      same_width = refl;
      same_height = refl;
      full = length-written g.cells (y * g.width) line line_fits ∙ full;
      outside = λ i j p q o.
          elim (cases_lt j y) [
            | inl lt ↦ other_row i j p q (inl lt)
            | inr ge ↦
                elim (cases_lt y j) [
                  | inl gt ↦ other_row i j p q (inr gt)
                  | inr le ↦
                      let e : j ≡ y = omega arith in
                      rw e (same_row i p (elim o [ inl l ↦ inl l | inr o2 ↦ elim o2 [ inl r ↦ inr r | inr o3 ↦ elim o3 [ inl u ↦ absurd (omega arith) | inr d ↦ absurd (omega arith) ] ] ]))
                ]
          ];
    }

  pub length-slice_range : (xs : List S) (a n : ℕ) → a + n ≤ length xs → length (slice_range xs a (a + n)) ≡ n
  length-slice_range xs a n h =
      let d = length-drop a xs in
      let e : a + n - a ≡ n = omega arith in ap (λ n. length (take n (drop a xs))) e ∙ length-take-le n (drop a xs) (omega arith)

  -- ---- rectangles that change in turn

  pub outside_none : (x y w h : ℕ) (g : Grid S) → IsFull g → IsSameOutside x y w h g g
  outside_none x y w h g full = record { same_width = refl; same_height = refl; full = full; outside = λ i j p q o. refl }

  pub outside_both : (x y w h x' y' w' h' x'' y'' w'' h'' : ℕ) (g g' g'' : Grid S) →
      ((i j : ℕ) → IsOutside x'' y'' w'' h'' i j → IsOutside x y w h i j) → ((i j : ℕ) → IsOutside x'' y'' w'' h'' i j → IsOutside x' y' w' h' i j) →
      IsSameOutside x y w h g g' → IsSameOutside x' y' w' h' g' g'' → IsSameOutside x'' y'' w'' h'' g g''
  outside_both x y w h x' y' w' h' x'' y'' w'' h'' g g' g'' one two a b =
      let sw = a.same_width in
      let sh = a.same_height in
      record {
        same_width = b.same_width ∙ sw;
        same_height = b.same_height ∙ sh;
        full = b.full;
        outside = λ i j p q o. b.outside i j (omega arith) (omega arith) (two i j o) ∙ a.outside i j p q (one i j o);
      }

  -- some rows more, and some columns more
  pub outside_rows_more : (x y w k n : ℕ) (g g' g'' : Grid S) → IsSameOutside x y w k g g' → IsSameOutside x (y + k) w n g' g'' → IsSameOutside x y w (k + n) g g''
  outside_rows_more x y w k n g g' g'' =
      outside_both x y w k x (y + k) w n x y w (k + n) g g' g''
      (λ i j o. elim o [ inl l ↦ inl l | inr o2 ↦ elim o2 [ inl r ↦ inr (inl r) | inr o3 ↦ elim o3 [ inl u ↦ inr (inr (inl u)) | inr d ↦ inr (inr (inr (omega arith))) ] ] ])
      (λ i j o. elim o [ inl l ↦ inl l | inr o2 ↦ elim o2 [ inl r ↦ inr (inl r) | inr o3 ↦ elim o3 [ inl u ↦ inr (inr (inl (omega arith))) | inr d ↦ inr (inr (inr (omega arith))) ] ] ])

  pub outside_columns_more : (x y h k n : ℕ) (g g' g'' : Grid S) → IsSameOutside x y k h g g' → IsSameOutside (x + k) y n h g' g'' → IsSameOutside x y (k + n) h g g''
  outside_columns_more x y h k n g g' g'' =
      outside_both x y k h (x + k) y n h x y (k + n) h g g' g''
      (λ i j o. elim o [ inl l ↦ inl l | inr o2 ↦ elim o2 [ inl r ↦ inr (inl (omega arith)) | inr o3 ↦ inr (inr o3) ] ])
      (λ i j o. elim o [ inl l ↦ inl (omega arith) | inr o2 ↦ elim o2 [ inl r ↦ inr (inl (omega arith)) | inr o3 ↦ inr (inr o3) ] ])

  -- the number of a cell that is the same
  pub at_same : (f : S → ℤ) (g h : Grid S) (x y i j : ℕ) → cell g x y ≡ cell h i j → at (meanings f g) x y ≡ at (meanings f h) i j
  at_same f g h x y i j e = number_same f g.cells h.cells (place g x y) (place h i j) e

  -- ---- rows that are written one by one: value i j is what is written in column j of row i

  module _ (g g' g'' : Grid S) (x y n h k : ℕ) (value : ℕ → ℕ → Option S) (vs : List S) (columns : x + n ≤ g.width) (rows : y + h ≤ g.height) (inside : k < h) (lv : length vs ≡ n)
      (is : (j : ℕ) → j < n → slice_get vs j ≡ value k j) (a : IsSameOutside x y n k g g') (e : g'' ≡ with_row g' (y + k) (written (row g' (y + k)) x vs)) where
    line_outside : IsSameOutside x (y + k) n 1 g' g''
    line_outside =
        let sw = a.same_width in
        let sh = a.same_height in
        let new : Grid S = with_row g' (y + k) (written (row g' (y + k)) x vs) in
        let b : IsSameOutside x (y + k) (length vs) 1 g' new = changed_outside g' a.full x (y + k) vs (omega arith) (omega arith) in
        subst (λ h. IsSameOutside x (y + k) n 1 g' h) (sym e) (subst (λ m. IsSameOutside x (y + k) m 1 g' new) lv b)

    pub lines_outside : IsSameOutside x y n (k + 1) g g''
    lines_outside = outside_rows_more x y n k 1 g g' g'' a line_outside

    pub lines_written : ((i j : ℕ) → i < k → j < n → cell g' (x + j) (y + i) ≡ value i j) → (i j : ℕ) → i < k + 1 → j < n → cell g'' (x + j) (y + i) ≡ value i j
    lines_written all i j p q =
        let sw = a.same_width in
        let sh = a.same_height in
        elim (cases_lt i k) [
          | inl lt ↦ line_outside.outside (x + j) (y + i) (omega arith) (omega arith) (inr (inr (inl (omega arith)))) ∙ all i j lt q
          | inr ge ↦
              let same : k ≡ i = omega arith in
              let own : cell g'' (x + j) (y + k) ≡ value k j =
              ap (λ h. cell h (x + j) (y + k)) e ∙ changed_in g' a.full x (y + k) vs (omega arith) (omega arith) j (omega arith) ∙ is j q
              in subst (λ i. cell g'' (x + j) (y + i) ≡ value i j) same own
        ]
