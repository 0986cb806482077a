-- Regions squeezed in place: row by row, and strip by strip.
use Rattle.std.proofs.Common.{◌≡◌, ◌≢◌, ℕ, ◌+◌, ◌*◌, ◌/◌, ◌-◌, ◌<◌, ◌≤◌, inl, inr, ℤ, true, false, List, [], ◌∷◌, length, FitsSigned, refl, sym, ap, ◌∙◌, subst, arith}
use Rattle.std.specs.Prelude.{slice_get, slice_range}
use Rattle.std.specs.Int.{Width}
use Rattle.std.specs.List.{All}
use Rattle.std.proofs.Math.ListN.{get_or-eq_default}
use Rattle.std.proofs.lemmas.Bool.{cases_lt}
use Rattle.jxlm_base.specs.Grid.{Grid, grid, at, IsFull}
use Rattle.jxlm_base.specs.Outside.{KeepsOutside, SetsRow, buffer_at, row_of}
use Rattle.jxlm_base.specs.Regions.{Lies, HasCell, buffer_of, grid_of, region_cell, store_meanings}
use Rattle.jxlm_base.specs.declared.subgrid.Region.{Region}
use Rattle.jxlm_lanes.specs.Squeeze.{AreSame, AreSamples, average, averages, average_at, sample_before, average_after, residual_at, squeezed}
use Rattle.jxlm_base.proofs.GridLaws.{grid_by_same}
use Rattle.jxlm_base.proofs.Outside.{all_one, keeps_all, keeps_both, keeps_wider, number_of_row, number_same, region_cell_kept}
use Rattle.jxlm_base.proofs.Regions.{at-grid_of}
use Rattle.jxlm_lanes.proofs.SqueezeLaws.{if_lt, if_ge}
use Rattle.jxlm_encode_transform.specs.Inner.Lines.{number_in}
use Rattle.jxlm_encode_transform.proofs.Numbers.{below_next, residual_same}
use Rattle.jxlm_encode_transform.specs.Inner.Squeezed.{AreLines, SqueezedColumns, SqueezedRows, SqueezesRow, number_of, strip_of}
use Rattle.jxlm_encode_transform.proofs.LineSteps.{number_part}
use Rattle.jxlm_inverse.specs.UndoneSqueeze.{UndoesSqueeze}

-- ---- lines of the same samples are squeezed to the same

module _ (w : Width) (n : ℕ) (a b : ℕ → ℤ) (same : AreSame n a b) where
  average_same : (k : ℕ) → k < averages n → average_at w n a k ≡ average_at w n b k
  average_same k lt =
      elim (cases_lt k (n / 2)) [
        | inl l ↦
            if_lt k (n / 2) (average w (a (2 * k)) (a (2 * k + 1))) (a (2 * k)) l
            ∙ ap (λ z. average w z (a (2 * k + 1))) (same (2 * k) (omega (arith, l))) ∙ ap (average w (b (2 * k))) (same (2 * k + 1) (omega (arith, l)))
            ∙ sym (if_lt k (n / 2) (average w (b (2 * k)) (b (2 * k + 1))) (b (2 * k)) l)
        | inr g ↦
            if_ge k (n / 2) (average w (a (2 * k)) (a (2 * k + 1))) (a (2 * k)) g ∙ same (2 * k) (omega (arith, lt, g))
            ∙ sym (if_ge k (n / 2) (average w (b (2 * k)) (b (2 * k + 1))) (b (2 * k)) g)
      ]

  before_same : (k : ℕ) → k < n / 2 → sample_before w n a k ≡ sample_before w n b k
  before_same k lt =
      elim (cases_lt 0 k) [
        | inl l ↦
            if_lt 0 k (a (2 * k - 1)) (average_at w n a k) l ∙ same (2 * k - 1) (omega (arith, lt)) ∙ sym (if_lt 0 k (b (2 * k - 1)) (average_at w n b k) l)
        | inr g ↦
            if_ge 0 k (a (2 * k - 1)) (average_at w n a k) g ∙ average_same k (omega (arith, lt)) ∙ sym (if_ge 0 k (b (2 * k - 1)) (average_at w n b k) g)
      ]

  after_same : (k : ℕ) → k < n / 2 → average_after w n a k ≡ average_after w n b k
  after_same k lt =
      elim (cases_lt (k + 1) (averages n)) [
        | inl l ↦
            if_lt (k + 1) (averages n) (average_at w n a (k + 1)) (average_at w n a k) l ∙ average_same (k + 1) l
            ∙ sym (if_lt (k + 1) (averages n) (average_at w n b (k + 1)) (average_at w n b k) l)
        | inr g ↦
            if_ge (k + 1) (averages n) (average_at w n a (k + 1)) (average_at w n a k) g ∙ average_same k (omega (arith, lt))
            ∙ sym (if_ge (k + 1) (averages n) (average_at w n b (k + 1)) (average_at w n b k) g)
      ]

  residuals_same : (k : ℕ) → k < n / 2 → residual_at w n a k ≡ residual_at w n b k
  residuals_same k lt =
      residual_same w (a (2 * k)) (a (2 * k + 1)) (sample_before w n a k) (average_at w n a k) (average_after w n a k) (b (2 * k)) (b (2 * k + 1)) (sample_before w n b k) (average_at w n b k) (average_after w n b k)
      (before_same k lt) (average_same k (omega (arith, lt))) (after_same k lt) (same (2 * k) (omega (arith, lt))) (same (2 * k + 1) (omega (arith, lt)))

  pub squeezed_same : AreSame n (squeezed w n a) (squeezed w n b)
  squeezed_same i lt =
      elim (cases_lt i (averages n)) [
        | inl l ↦
            if_lt i (averages n) (average_at w n a i) (residual_at w n a (i - averages n)) l ∙ average_same i l
            ∙ sym (if_lt i (averages n) (average_at w n b i) (residual_at w n b (i - averages n)) l)
        | inr g ↦
            if_ge i (averages n) (average_at w n a i) (residual_at w n a (i - averages n)) g ∙ residuals_same (i - averages n) (omega (arith, lt, g))
            ∙ sym (if_ge i (averages n) (average_at w n b i) (residual_at w n b (i - averages n)) g)
      ]

-- ---- what is kept, looked at from the other side

full_at : {S : Type 0} (store : List (Grid S)) (b : ℕ) → All IsFull store → IsFull (buffer_at store b)
full_at store b full =
    elim (cases_lt b (length store)) [
      | inl l ↦ full b (grid 0 0 []) l
      | inr g ↦ subst IsFull (sym (get_or-eq_default store (grid 0 0 []) {n = b} g)) refl
    ]

pub keeps_back : {S : Type 0} (regions : List Region) (old new : List (Grid S)) → All IsFull old → KeepsOutside regions old new → KeepsOutside regions new old
keeps_back regions old new full k = record {
  count = sym k.count;
  width = λ b. sym (k.width b);
  height = λ b. sym (k.height b);
  full = λ b _. full_at old b full;
  cells = λ b x y p q o. sym (k.cells b x y (subst (λ n. x < n) (k.width b) p) (subst (λ n. y < n) (k.height b) q) o);
}

-- ---- cells that are kept

pub row_inside : (r : Region) (y b i j : ℕ) → y < r.height → HasCell (row_of r y) b i j → HasCell r b i j
row_inside r y b i j below h =
    let top = h.top in
    let bottom = h.bottom in
    record { buffer = h.buffer; left = h.left; right = h.right; top = omega (arith, top); bottom = omega (arith, bottom, below) }

pub other_row : (r : Region) (x y z : ℕ) → y ≢ z → HasCell (row_of r z) r.buffer (r.x + x) (r.y + y) → ⊥
other_row r x y z ne h = let top = h.top in let bottom = h.bottom in ne (omega (arith, top, bottom))

strip_inside : (r : Region) (k n b i j : ℕ) → k + n ≤ r.width → HasCell (strip_of r k n) b i j → HasCell r b i j
strip_inside r k n b i j fits h =
    let left = h.left in
    let right = h.right in
    record { buffer = h.buffer; left = omega (arith, left); right = omega (arith, right, fits); top = h.top; bottom = h.bottom }

module _ {S : Type 0} (f : S → ℤ) (r : Region) where
  -- a row that is not written
  other_number : (n : ℕ) (now new : List (Grid S)) (x y : ℕ) → Lies r now → KeepsOutside (row_of r n ∷ []) now new → x < r.width → y < r.height → y ≢ n → number_of f r new x y ≡ number_of f r now x y
  other_number n now new x y lies keeps p q ne =
      number_same f now new r x y
      (region_cell_kept (row_of r n ∷ []) r now new x y keeps lies p q (all_one (λ s. HasCell s r.buffer (r.x + x) (r.y + y) → ⊥) (row_of r n) (other_row r x y n ne)))

  -- what is kept outside a row is kept outside the region
  pub keeps_row : (n : ℕ) (now new : List (Grid S)) → n < r.height → KeepsOutside (row_of r n ∷ []) now new → KeepsOutside (r ∷ []) now new
  keeps_row n now new below keeps =
      keeps_wider (row_of r n ∷ []) (r ∷ []) now new keeps
      (λ b i j out. all_one (λ s. HasCell s b i j → ⊥) (row_of r n) (λ h. out 0 r (omega arith) (row_inside r n b i j below h)))

  -- ---- lines written over a region's

  pub lines_written : (lines vs : List S) (k : ℕ) (now new : List (Grid S)) → Lies r now → k < r.height → vs ≡ slice_range lines (k * r.width) (k * r.width + r.width) → SetsRow r k vs now new →
      AreLines f r.width lines (number_of f r now) k → AreLines f r.width lines (number_of f r new) (k + 1)
  lines_written lines vs k now new lies below is sets so_far x y p q =
      below_next (λ z. number_in f lines (z * r.width + x) ≡ number_of f r new x z) k
      (λ z l. so_far x z p l ∙ sym (other_number k now new x z lies sets.keeps p (omega (arith, l, below)) (omega (arith, l))))
      (sym (number_of_row f new r x k vs (sets.cells x p) ∙ ap (λ zs. number_in f zs x) is ∙ number_part f lines (k * r.width) r.width x p)) y q

  -- ---- row after row

  module _ (w : Width) where
    pub rows_start : (store : List (Grid S)) → SqueezedRows f w r 0 store store
    rows_start store = record {
      each = λ x y p q. absurd (omega (arith, q));
      samples = λ y q. absurd (omega (arith, q));
      rest = λ x y p l q. refl;
      keeps = keeps_all (r ∷ []) store;
    }

    pub rows_more : (k : ℕ) (old now new : List (Grid S)) → Lies r now → k < r.height → SqueezedRows f w r k old now → SqueezesRow f w r k now new → SqueezedRows f w r (k + 1) old new
    rows_more k old now new lies below u row =
        let was : AreSame r.width (λ i. number_of f r now i k) (λ i. number_of f r old i k) = λ i p. u.rest i k p (omega arith) below in
        record {
          each = λ x y p q.
              below_next (λ z. number_of f r new x z ≡ squeezed w r.width (λ i. number_of f r old i z) x) k
              (λ z l. other_number k now new x z lies row.keeps p (omega (arith, l, below)) (omega (arith, l)) ∙ u.each x z p l)
              (row.each x p ∙ squeezed_same w r.width (λ i. number_of f r now i k) (λ i. number_of f r old i k) was x p) y q;
          samples = λ y q. below_next (λ z. AreSamples w r.width (λ i. number_of f r old i z)) k u.samples (λ i p. subst (FitsSigned w) (was i p) (row.samples i p)) y q;
          rest = λ x y p l q. other_number k now new x y lies row.keeps p q (omega (arith, l)) ∙ u.rest x y p (omega (arith, l)) q;
          keeps = keeps_both (r ∷ []) old now new u.keeps (keeps_row k now new below row.keeps);
        }

    -- a row read, squeezed and written
    pub squeezes_row : (y : ℕ) (line coded : List S) (old new : List (Grid S)) → length line ≡ r.width → ((x : ℕ) → x < r.width → region_cell old r x y ≡ slice_get line x) →
        AreSame (length line) (number_in f coded) (squeezed w (length line) (number_in f line)) → AreSamples w (length line) (number_in f line) → SetsRow r y coded old new → SqueezesRow f w r y old new
    squeezes_row y line coded old new long read is samples sets =
        let same : AreSame r.width (number_in f line) (λ i. number_of f r old i y) = λ i p. sym (number_of_row f old r i y line (read i p)) in
        record {
          each = λ x p.
              number_of_row f new r x y coded (sets.cells x p) ∙ is x (omega (arith, p, long)) ∙ ap (λ n. squeezed w n (number_in f line) x) long
              ∙ squeezed_same w r.width (number_in f line) (λ i. number_of f r old i y) same x p;
          samples = λ i p. subst (FitsSigned w) (same i p) (samples i (omega (arith, p, long)));
          keeps = sets.keeps;
        }

-- ---- strip after strip

module _ {S : Type 0} (f : S → ℤ) (w : Width) (r : Region) where
  pub columns_start : (store : List (Grid S)) → SqueezedColumns f w r 0 store store
  columns_start store = record {
    each = λ x y p q. absurd (omega (arith, p));
    samples = λ x p. absurd (omega (arith, p));
    rest = λ x y l p q. refl;
    keeps = keeps_all (r ∷ []) store;
  }

  pub strip_lies : (k n : ℕ) (store : List (Grid S)) → k + n ≤ r.width → Lies r store → Lies (strip_of r k n) store
  strip_lies k n store fits lies =
      let columns = lies.columns in
      record { there = lies.there; full = lies.full; columns = omega (arith, columns, fits); rows = lies.rows }

  module _ (k n : ℕ) (old now new : List (Grid S)) (fits : k + n ≤ r.width) (lies : Lies r now) (u : SqueezedColumns f w r k old now) (one : SqueezedColumns f w (strip_of r k n) n now new) where
    -- a number outside the strip, and one in it
    outside_strip : (x y : ℕ) → x < r.width → y < r.height → (k ≤ x → x < k + n → ⊥) → number_of f r new x y ≡ number_of f r now x y
    outside_strip x y p q out =
        number_same f now new r x y
        (region_cell_kept (strip_of r k n ∷ []) r now new x y one.keeps lies p q
        (all_one (λ s. HasCell s r.buffer (r.x + x) (r.y + y) → ⊥) (strip_of r k n) (λ h. let left = h.left in let right = h.right in out (omega (arith, left)) (omega (arith, right)))))

    in_strip : (store : List (Grid S)) (x y : ℕ) → k ≤ x → number_of f (strip_of r k n) store (x - k) y ≡ number_of f r store x y
    in_strip store x y l =
        let is : r.x + k + (x - k) ≡ r.x + x = omega (arith, l) in
        ap (λ z. at (buffer_of (store_meanings f store) r) z (r.y + y)) is

    column_was : (x : ℕ) → k ≤ x → x < k + n → AreSame r.height (number_of f (strip_of r k n) now (x - k)) (number_of f r old x)
    column_was x l p i q = in_strip now x i l ∙ u.rest x i l (omega (arith, p, fits)) q

    pub columns_more : SqueezedColumns f w r (k + n) old new
    columns_more = record {
      each = λ x y p q. elim (cases_lt x k) [
        | inl l ↦ outside_strip x y (omega (arith, l, fits)) q (λ a b. absurd (omega (arith, a, l))) ∙ u.each x y l q
        | inr g ↦
            sym (in_strip new x y g) ∙ one.each (x - k) y (omega (arith, g, p)) q
            ∙ squeezed_same w r.height (number_of f (strip_of r k n) now (x - k)) (number_of f r old x) (column_was x g p) y q
      ];
      samples = λ x p. elim (cases_lt x k) [
        | inl l ↦ u.samples x l
        | inr g ↦ λ i q. subst (FitsSigned w) (column_was x g p i q) (one.samples (x - k) (omega (arith, g, p)) i q)
      ];
      rest = λ x y l p q. outside_strip x y p q (λ a b. absurd (omega (arith, b, l))) ∙ u.rest x y (omega (arith, l)) p q;
      keeps =
          keeps_both (r ∷ []) old now new u.keeps
          (keeps_wider (strip_of r k n ∷ []) (r ∷ []) now new one.keeps
          (λ b i j out. all_one (λ s. HasCell s b i j → ⊥) (strip_of r k n) (λ h. out 0 r (omega arith) (strip_inside r k n b i j fits h))));
    }

-- ---- whole regions

module _ {S : Type 0} (f : S → ℤ) (w : Width) (r : Region) (old new : List (Grid S)) where
  pub rows_undone : SqueezedRows f w r r.height old new → UndoesSqueeze w true r (store_meanings f new) (store_meanings f old)
  rows_undone done =
      let g : Grid ℤ = grid_of (store_meanings f old) r in
      record {
        squeezed = grid_by_same r.width r.height (λ x y. squeezed w r.width (λ i. at g i y) x) (number_of f r new)
            (λ x y p q.
            squeezed_same w r.width (λ i. at g i y) (λ i. number_of f r old i y) (λ i l. at-grid_of (store_meanings f old) r i y l q) x p ∙ sym (done.each x y p q));
        samples = λ x y p q. subst (FitsSigned w) (sym (at-grid_of (store_meanings f old) r x y p q)) (done.samples y q x p);
      }

  pub columns_undone : SqueezedColumns f w r r.width old new → UndoesSqueeze w false r (store_meanings f new) (store_meanings f old)
  columns_undone done =
      let g : Grid ℤ = grid_of (store_meanings f old) r in
      record {
        squeezed = grid_by_same r.width r.height (λ x y. squeezed w r.height (λ i. at g x i) y) (number_of f r new)
            (λ x y p q.
            squeezed_same w r.height (λ i. at g x i) (number_of f r old x) (λ i l. at-grid_of (store_meanings f old) r x i p l) y q ∙ sym (done.each x y p q));
        samples = λ x y p q. subst (FitsSigned w) (sym (at-grid_of (store_meanings f old) r x y p q)) (done.samples x p y q);
      }
