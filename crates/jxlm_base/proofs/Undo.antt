-- Rectangles undone row by row, or some columns at a time.
use Rattle.std.proofs.Common.{◌≡◌, ℕ, ◌+◌, ◌-◌, ◌*◌, ◌/◌, ◌<◌, ◌≤◌, ◌⊎◌, inl, inr, List, length, ℤ, FitsSigned, sym, refl, ap, ◌∙◌, subst, arith}
use Rattle.std.specs.Prelude.{slice_range}
use Rattle.std.specs.Int.{Width}
use Rattle.std.proofs.Math.Nat.{mul-le-mul_left, mul-div-le, le-div_iff_mul-le}
use Rattle.std.proofs.lemmas.Bool.{cases_lt}
use Rattle.jxlm_base.specs.Grid.{Grid, at, row, place, written, with_row, meanings, grid_by, IsFull}
use Rattle.jxlm_lanes.specs.Squeeze.{AreSamples, AreSame, squeezed}
use Rattle.jxlm_base.specs.SqueezedGrids.{AreGridSamples, squeezed_rows, squeezed_columns}
use Rattle.jxlm_base.specs.Subgrid.{IsSameOutside}
use Rattle.jxlm_lanes.specs.Pairs.{number_at, IsUnsqueezed}
use Rattle.jxlm_lanes.proofs.NumberAt.{number_same}
use Rattle.jxlm_base.proofs.GridLaws.{grid_by_same, at-grid_by}
use Rattle.jxlm_lanes.proofs.SqueezeLaws.{IsUnsqueezed_same, squeezed_is, samples_of_undone}
use Rattle.jxlm_base.proofs.RowWrites.{part_numbers, changed_in, changed_outside, at_same}

-- ---- one row

module _ {S : Type 0} (f : S → ℤ) (w : Width) (g g' : Grid S) (left x y n : ℕ) (coded vs : List S)
    (is : x ≡ left) (full : IsFull g) (fits : left + n ≤ g.width) (inside : y < g.height) (e : coded ≡ slice_range (row g y) x (x + n))
    (lc : length coded ≡ n) (lv : length vs ≡ n) (e' : g' ≡ with_row g y (written (row g y) x vs)) where
  abbrev old_row : ℕ → ℤ
  old_row i = at (meanings f g) (left + i) y

  abbrev new_row : ℕ → ℤ
  new_row i = at (meanings f g') (left + i) y

  code_same : AreSame n (number_at f coded) old_row
  code_same i h = part_numbers f g x y n i coded e (omega arith) h ∙ ap (λ x. at (meanings f g) (x + i) y) is

  row_same : AreSame n (number_at f vs) new_row
  row_same i h =
      let new : Grid S = with_row g y (written (row g y) x vs) in
      number_same f vs new.cells i (place new (x + i) y) (sym (changed_in g full x y vs (omega arith) inside i (omega arith)))
      ∙ ap (λ h. at (meanings f h) (x + i) y) (sym e') ∙ ap (λ x. at (meanings f g') (x + i) y) is

  pub row_undone : IsUnsqueezed w (length coded) (number_at f coded) (number_at f vs) → IsUnsqueezed w n old_row new_row
  row_undone u = IsUnsqueezed_same w n (number_at f coded) old_row code_same (number_at f vs) new_row row_same (subst (λ k. IsUnsqueezed w k (number_at f coded) (number_at f vs)) lc u)

  pub row_samples : AreSamples w (length coded) (number_at f coded) → AreSamples w n old_row
  row_samples a i h = subst (FitsSigned w) (code_same i h) (a i (omega arith))

  pub row_outside : IsSameOutside left y n 1 g g'
  row_outside =
      let new : Grid S = with_row g y (written (row g y) x vs) in
      let a : IsSameOutside x y (length vs) 1 g new = changed_outside g full x y vs (omega arith) inside in
      subst (λ h. IsSameOutside left y n 1 g h) (sym e') (subst (λ x. IsSameOutside x y n 1 g new) is (subst (λ k. IsSameOutside x y k 1 g new) lv a))

below_next : (P : ℕ → Type 0) (k : ℕ) → ((j : ℕ) → j < k → P j) → P k → (j : ℕ) → j < k + 1 → P j
below_next P k h p j lt = elim (cases_lt j k) [ inl l ↦ h j l | inr g ↦ let e : k ≡ j = omega arith in subst P e p ]

-- what is said of three numbers, of equal ones
pub moved : (P : ℕ → ℕ → ℕ → Type 0) (a b c a' b' c' : ℕ) → a ≡ a' → b ≡ b' → c ≡ c' → P a b c → P a' b' c'
moved P a b c a' b' c' p q r t = subst (λ a. P a b' c') p (subst (λ b. P a b c') q (subst (λ c. P a b c) r t))

-- ---- some rows more

module _ {S : Type 0} (f : S → ℤ) (w : Width) (g g' g'' : Grid S) (x y n k m : ℕ) (columns : x + n ≤ g.width) (rows : y + (k + m) ≤ g.height)
    (a : IsSameOutside x y n k g g') (b : IsSameOutside x (y + k) n m g' g'') where
  abbrev row_of : Grid S → ℕ → ℕ → ℤ
  row_of g j i = at (meanings f g) (x + i) (y + j)

  still : (j : ℕ) → j < k → AreSame n (row_of g' j) (row_of g'' j)
  still j lt i p =
      let sw = a.same_width in
      let sh = a.same_height in
      at_same f g' g'' (x + i) (y + j) (x + i) (y + j) (sym (b.outside (x + i) (y + j) (omega arith) (omega arith) (inr (inr (inl (omega arith))))))

  untouched : (j : ℕ) → k ≤ j → j < k + m → AreSame n (row_of g' j) (row_of g j)
  untouched j le lt i p = at_same f g' g (x + i) (y + j) (x + i) (y + j) (a.outside (x + i) (y + j) (omega arith) (omega arith) (inr (inr (inr (omega arith)))))

  pub undone_rows_more : ((j : ℕ) → j < k → IsUnsqueezed w n (row_of g j) (row_of g' j)) → ((j : ℕ) → j < m → IsUnsqueezed w n (row_of g' (k + j)) (row_of g'' (k + j))) →
      (j : ℕ) → j < k + m → IsUnsqueezed w n (row_of g j) (row_of g'' j)
  undone_rows_more all some j lt =
      elim (cases_lt j k) [
        | inl l ↦ IsUnsqueezed_same w n (row_of g j) (row_of g j) (λ i p. refl) (row_of g' j) (row_of g'' j) (still j l) (all j l)
        | inr ge ↦
            let e : k + (j - k) ≡ j = omega arith in
            IsUnsqueezed_same w n (row_of g' j) (row_of g j) (untouched j ge lt) (row_of g'' j) (row_of g'' j) (λ i p. refl) (subst (λ j. IsUnsqueezed w n (row_of g' j) (row_of g'' j)) e (some (j - k) (omega arith)))
      ]

  pub row_samples_more : ((j : ℕ) → j < k → AreSamples w n (row_of g j)) → ((j : ℕ) → j < m → AreSamples w n (row_of g' (k + j))) → (j : ℕ) → j < k + m → AreSamples w n (row_of g j)
  row_samples_more all some j lt =
      elim (cases_lt j k) [
        | inl l ↦ all j l
        | inr ge ↦
            let e : k + (j - k) ≡ j = omega arith in
            λ i p. subst (FitsSigned w) (untouched j ge lt i p) (subst (λ j. AreSamples w n (row_of g' j)) e (some (j - k) (omega arith)) i p)
      ]

-- ---- some columns more

module _ {S : Type 0} (f : S → ℤ) (w : Width) (g g' g'' : Grid S) (x y k n h : ℕ) (columns : x + (k + n) ≤ g.width) (rows : y + h ≤ g.height)
    (a : IsSameOutside x y k h g g') (b : IsSameOutside (x + k) y n h g' g'') where
  abbrev column_of : Grid S → ℕ → ℕ → ℤ
  column_of g j i = at (meanings f g) (x + j) (y + i)

  stand : (j : ℕ) → j < k → AreSame h (column_of g' j) (column_of g'' j)
  stand j lt i p =
      let sw = a.same_width in
      let sh = a.same_height in
      at_same f g' g'' (x + j) (y + i) (x + j) (y + i) (sym (b.outside (x + j) (y + i) (omega arith) (omega arith) (inl (omega arith))))

  unchanged : (j : ℕ) → k ≤ j → j < k + n → AreSame h (column_of g' j) (column_of g j)
  unchanged j le lt i p = at_same f g' g (x + j) (y + i) (x + j) (y + i) (a.outside (x + j) (y + i) (omega arith) (omega arith) (inr (inl (omega arith))))

  pub undone_columns_more : ((j : ℕ) → j < k → IsUnsqueezed w h (column_of g j) (column_of g' j)) → ((j : ℕ) → j < n → IsUnsqueezed w h (column_of g' (k + j)) (column_of g'' (k + j))) →
      (j : ℕ) → j < k + n → IsUnsqueezed w h (column_of g j) (column_of g'' j)
  undone_columns_more all some j lt =
      elim (cases_lt j k) [
        | inl l ↦ IsUnsqueezed_same w h (column_of g j) (column_of g j) (λ i p. refl) (column_of g' j) (column_of g'' j) (stand j l) (all j l)
        | inr ge ↦
            let e : k + (j - k) ≡ j = omega arith in
            IsUnsqueezed_same w h (column_of g' j) (column_of g j) (unchanged j ge lt) (column_of g'' j) (column_of g'' j) (λ i p. refl) (subst (λ j. IsUnsqueezed w h (column_of g' j) (column_of g'' j)) e (some (j - k) (omega arith)))
      ]

  pub column_samples_more : ((j : ℕ) → j < k → AreSamples w h (column_of g j)) → ((j : ℕ) → j < n → AreSamples w h (column_of g' (k + j))) → (j : ℕ) → j < k + n → AreSamples w h (column_of g j)
  column_samples_more all some j lt =
      elim (cases_lt j k) [
        | inl l ↦ all j l
        | inr ge ↦
            let e : k + (j - k) ≡ j = omega arith in
            λ i p. subst (FitsSigned w) (unchanged j ge lt i p) (subst (λ j. AreSamples w h (column_of g' j)) e (some (j - k) (omega arith)) i p)
      ]

-- ---- all

module _ {S : Type 0} (f : S → ℤ) (w : Width) (g g' : Grid S) (x y n h : ℕ) where
  abbrev numbers : Grid S → Grid ℤ
  numbers g = grid_by n h (λ i j. at (meanings f g) (x + i) (y + j))

  abbrev row_at : Grid S → ℕ → ℕ → ℤ
  row_at g j i = at (meanings f g) (x + i) (y + j)

  abbrev column_at : Grid S → ℕ → ℕ → ℤ
  column_at g j i = at (meanings f g) (x + j) (y + i)

  number_is : (g : Grid S) (i j : ℕ) → i < n → j < h → at (numbers g) i j ≡ at (meanings f g) (x + i) (y + j)
  number_is g i j p q = at-grid_by n h (λ i j. at (meanings f g) (x + i) (y + j)) i j p q

  pub all_rows : ((j : ℕ) → j < h → IsUnsqueezed w n (row_at g j) (row_at g' j)) → ((j : ℕ) → j < h → AreSamples w n (row_at g j)) → squeezed_rows w (numbers g') ≡ numbers g
  all_rows undone fits =
      grid_by_same n h (λ i j. squeezed w n (λ i. at (numbers g') i j) i) (λ i j. at (meanings f g) (x + i) (y + j))
      (λ i j p q.
      squeezed_is w n (row_at g j) (λ i. at (numbers g') i j) (fits j q)
      (IsUnsqueezed_same w n (row_at g j) (row_at g j) (λ i p. refl) (row_at g' j) (λ i. at (numbers g') i j) (λ i p. sym (number_is g' i j p q)) (undone j q)) i p)

  pub all_columns : ((j : ℕ) → j < n → IsUnsqueezed w h (column_at g j) (column_at g' j)) → ((j : ℕ) → j < n → AreSamples w h (column_at g j)) → squeezed_columns w (numbers g') ≡ numbers g
  all_columns undone fits =
      grid_by_same n h (λ i j. squeezed w h (λ j. at (numbers g') i j) j) (λ i j. at (meanings f g) (x + i) (y + j))
      (λ i j p q.
      squeezed_is w h (column_at g i) (λ j. at (numbers g') i j) (fits i p)
      (IsUnsqueezed_same w h (column_at g i) (column_at g i) (λ j q. refl) (column_at g' i) (λ j. at (numbers g') i j) (λ j q. sym (number_is g' i j p q)) (undone i p)) j q)

  pub row_samples_all : ((j : ℕ) → j < h → IsUnsqueezed w n (row_at g j) (row_at g' j)) → ((j : ℕ) → j < h → AreSamples w n (row_at g j)) → AreGridSamples w (numbers g')
  row_samples_all undone fits i j p q = subst (FitsSigned w) (sym (number_is g' i j p q)) (samples_of_undone w n (row_at g j) (row_at g' j) (fits j q) (undone j q) i p)

  pub column_samples_all : ((j : ℕ) → j < n → IsUnsqueezed w h (column_at g j) (column_at g' j)) → ((j : ℕ) → j < n → AreSamples w h (column_at g j)) → AreGridSamples w (numbers g')
  column_samples_all undone fits i j p q = subst (FitsSigned w) (sym (number_is g' i j p q)) (samples_of_undone w h (column_at g i) (column_at g' i) (fits i p) (undone i p) j q)

  -- a side of 0
  pub no_rows : (n ≡ 0) ⊎ (h ≡ 0) → squeezed_rows w (numbers g) ≡ numbers g
  no_rows o =
      grid_by_same n h (λ i j. squeezed w n (λ i. at (numbers g) i j) i) (λ i j. at (meanings f g) (x + i) (y + j))
      (λ i j p q. absurd (elim o [ inl e ↦ omega arith | inr e ↦ omega arith ]))

  pub no_columns : (n ≡ 0) ⊎ (h ≡ 0) → squeezed_columns w (numbers g) ≡ numbers g
  no_columns o =
      grid_by_same n h (λ i j. squeezed w h (λ j. at (numbers g) i j) j) (λ i j. at (meanings f g) (x + i) (y + j))
      (λ i j p q. absurd (elim o [ inl e ↦ omega arith | inr e ↦ omega arith ]))

  pub no_samples : (n ≡ 0) ⊎ (h ≡ 0) → AreGridSamples w (numbers g)
  no_samples o i j p q = absurd (elim o [ inl e ↦ omega arith | inr e ↦ omega arith ])

-- as many columns as there is room for
pub room_of : (len h m : ℕ) → m ≤ len / (h + 1) → (h + 1) * m ≤ len
room_of len h m le = between ((h + 1) * m) ((h + 1) * (len / (h + 1))) len (mul-le-mul_left {m = m} {n = len / (h + 1)} (h + 1) le) (mul-div-le len (h + 1))
  where
    between : (a b c : ℕ) → a ≤ b → b ≤ c → a ≤ c
    between a b c p q = omega arith

pub some_room : (len h : ℕ) → h + 1 ≤ len → 1 ≤ len / (h + 1)
some_room len h le = (le-div_iff_mul-le {k = h + 1} {x = 1} {y = len} (omega arith)).1 (omega arith)
