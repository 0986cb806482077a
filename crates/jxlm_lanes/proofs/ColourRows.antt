-- Three rows, finished from the left.
use Rattle.std.proofs.Common.{◌≡◌, ◌≢◌, ℕ, ◌+◌, ◌<◌, ◌≤◌, inl, inr, List, length, ℤ, pos, refl, sym, ap, ◌∙◌, arith, subst}
use Rattle.std.specs.Prelude.{get_or, slice_set, map}
use Rattle.std.specs.Int.{Width}
use Rattle.std.proofs.Math.ListN.{length-set}
use Rattle.std.proofs.lemmas.Bool.{cases_lt}
use Rattle.std.proofs.lemmas.List.{get_or-set_same, get_or-set_other, get_or-map, length-map, map-set}
use Rattle.jxlm_lanes.specs.Colour.{triple, IsTripleOf, finished_by, triple_at, FinishesRows}
use Rattle.jxlm_lanes.specs.FinishedCells.{FinishesCells}
use Rattle.jxlm_lanes.proofs.ColourLaws.{triple_same}

module _ (w : Width) (t : ℕ) where
  pub cells_start : (m : ℕ) (a b c : List ℤ) → FinishesCells w t m m a b c a b c
  cells_start m a b c = record {
    first_length = refl;
    second_length = refl;
    third_length = refl;
    fits = λ k g h. absurd (omega arith);
    each = λ k g h. absurd (omega arith);
    before = λ k h. refl;
    after = λ k h l. refl;
  }

  -- further cells are finished in rows that are as before elsewhere
  pub cells_more : (m j k : ℕ) (a b c a' b' c' d e f : List ℤ) → m ≤ j → k ≤ length a → FinishesCells w t m j a b c a' b' c' →
      length d ≡ length a' → length e ≡ length b' → length f ≡ length c' →
      ((i : ℕ) → j ≤ i → i < k → IsTripleOf w (triple_at a' b' c' i)) →
      ((i : ℕ) → j ≤ i → i < k → triple_at d e f i ≡ finished_by w t (triple_at a' b' c' i)) →
      ((i : ℕ) → i < j → triple_at d e f i ≡ triple_at a' b' c' i) →
      ((i : ℕ) → k ≤ i → j ≤ i → triple_at d e f i ≡ triple_at a' b' c' i) →
      j ≤ k → FinishesCells w t m k a b c d e f
  cells_more m j k a b c a' b' c' d e f mj ka u ld le lf fits each below above jk = record {
    first_length = ld ∙ u.first_length;
    second_length = le ∙ u.second_length;
    third_length = lf ∙ u.third_length;
    fits = λ i g h.
        elim (cases_lt i j) [
          | inl l ↦ u.fits i g l
          | inr r ↦ subst (IsTripleOf w) (u.after i r (omega arith)) (fits i r h)
        ];
    each = λ i g h.
        elim (cases_lt i j) [
          | inl l ↦ below i l ∙ u.each i g l
          | inr r ↦ each i r h ∙ ap (finished_by w t) (u.after i r (omega arith))
        ];
    before = λ i h. below i (omega arith) ∙ u.before i h;
    after = λ i h l. above i h (omega arith) ∙ u.after i (omega arith) l;
  }

  one_more : (m n : ℕ) (a b c a' b' c' : List ℤ) (x y z : ℤ) → m ≤ n → FinishesCells w t m n a b c a' b' c' → n < length a → length b ≡ length a → length c ≡ length a →
      IsTripleOf w (triple_at a' b' c' n) → triple x y z ≡ finished_by w t (triple_at a' b' c' n) →
      FinishesCells w t m (n + 1) a b c (slice_set a' n x) (slice_set b' n y) (slice_set c' n z)
  one_more m n a b c a' b' c' x y z mn u lt second third fits is =
      let la = u.first_length in
      let lb = u.second_length in
      let lc = u.third_length in
      let here : triple_at (slice_set a' n x) (slice_set b' n y) (slice_set c' n z) n ≡ triple x y z =
      triple_same _ _ _ x y z (get_or-set_same a' n x (pos 0) (omega (arith, la))) (get_or-set_same b' n y (pos 0) (omega (arith, lb, second))) (get_or-set_same c' n z (pos 0) (omega (arith, lc, third))) in
      let other : (k : ℕ) → k ≢ n → triple_at (slice_set a' n x) (slice_set b' n y) (slice_set c' n z) k ≡ triple_at a' b' c' k =
      λ k ne. triple_same _ _ _ _ _ _ (get_or-set_other a' n k x (pos 0) ne) (get_or-set_other b' n k y (pos 0) ne) (get_or-set_other c' n k z (pos 0) ne) in
      cells_more m n (n + 1) a b c a' b' c' (slice_set a' n x) (slice_set b' n y) (slice_set c' n z) mn (omega arith) u
      (length-set a' n x) (length-set b' n y) (length-set c' n z)
      (λ k g h. let e : n ≡ k = omega arith in subst (λ j. IsTripleOf w (triple_at a' b' c' j)) e fits)
      (λ k g h.
      let e : n ≡ k = omega arith in
      subst (λ j. triple_at (slice_set a' n x) (slice_set b' n y) (slice_set c' n z) j ≡ finished_by w t (triple_at a' b' c' j)) e (here ∙ is))
      (λ k h. other k (λ e. absurd (omega arith))) (λ k g h. other k (λ e. absurd (omega arith))) (omega arith)

  -- all cells from one on, where some are
  pub cells_end : (m n : ℕ) (a b c a' b' c' : List ℤ) → FinishesCells w t m n a b c a' b' c' → length a ≤ n → FinishesCells w t m (length a) a b c a' b' c'
  cells_end m n a b c a' b' c' u le = record {
    first_length = u.first_length;
    second_length = u.second_length;
    third_length = u.third_length;
    fits = λ k g h. u.fits k g (omega arith);
    each = λ k g h. u.each k g (omega arith);
    before = u.before;
    after = λ k g h. absurd (omega arith);
  }

  -- rows whose first cells are finished, and then the others
  pub rows_joined : (n : ℕ) (a b c a' b' c' d e f : List ℤ) → FinishesCells w t 0 n a b c a' b' c' → FinishesCells w t n (length a') a' b' c' d e f → FinishesRows w t a b c d e f
  rows_joined n a b c a' b' c' d e f u v =
      let la = u.first_length in
      record {
        first_length = v.first_length ∙ u.first_length;
        second_length = v.second_length ∙ u.second_length;
        third_length = v.third_length ∙ u.third_length;
        fits = λ i h.
            elim (cases_lt i n) [
              | inl l ↦ u.fits i (omega arith) l
              | inr r ↦ subst (IsTripleOf w) (u.after i r h) (v.fits i r (omega arith))
            ];
        each = λ i h.
            elim (cases_lt i n) [
              | inl l ↦ v.before i l ∙ u.each i (omega arith) l
              | inr r ↦ v.each i r (omega arith) ∙ ap (finished_by w t) (u.after i r h)
            ];
      }

  pub all_rows : (a b c a' b' c' : List ℤ) → FinishesCells w t 0 (length a) a b c a' b' c' → FinishesRows w t a b c a' b' c'
  all_rows a b c a' b' c' u = record {
    first_length = u.first_length;
    second_length = u.second_length;
    third_length = u.third_length;
    fits = λ i h. u.fits i (omega arith) h;
    each = λ i h. u.each i (omega arith) h;
  }

-- the same of rows of samples
module _ {S : Type 0} (w : Width) (f : S → ℤ) (t : ℕ) where
  abbrev pub Cells : ℕ → ℕ → List S → List S → List S → List S → List S → List S → Type 0
  Cells m n a b c a' b' c' = FinishesCells w t m n (map f a) (map f b) (map f c) (map f a') (map f b') (map f c')

  pub start : (m : ℕ) (a b c : List S) → Cells m m a b c a b c
  start m a b c = cells_start w t m (map f a) (map f b) (map f c)

  pub more : (m n : ℕ) (a b c a' b' c' : List S) (p q r p' q' r' x y z : S) → m ≤ n → Cells m n a b c a' b' c' → n < length a → length b ≡ length a → length c ≡ length a →
      length a' ≡ length a → length b' ≡ length b → length c' ≡ length c → p ≡ get_or a' n p → q ≡ get_or b' n q → r ≡ get_or c' n r → p' ≡ p → q' ≡ q → r' ≡ r →
      IsTripleOf w (triple (f p) (f q) (f r)) → triple (f x) (f y) (f z) ≡ finished_by w t (triple (f p') (f q') (f r')) →
      Cells m (n + 1) a b c (slice_set a' n x) (slice_set b' n y) (slice_set c' n z)
  more m n a b c a' b' c' p q r p' q' r' x y z mn u lt second third la lb lc ip iq ir sp sq sr fits is =
      let old : triple_at (map f a') (map f b') (map f c') n ≡ triple (f p) (f q) (f r) =
      triple_same _ _ _ (f p) (f q) (f r) (get_or-map f a' n p (pos 0) (omega (arith, la)) ∙ ap f (sym ip)) (get_or-map f b' n q (pos 0) (omega (arith, lb, second)) ∙ ap f (sym iq)) (get_or-map f c' n r (pos 0) (omega (arith, lc, third)) ∙ ap f (sym ir)) in
      let new : triple (f x) (f y) (f z) ≡ finished_by w t (triple_at (map f a') (map f b') (map f c') n) =
      is ∙ ap (finished_by w t) (triple_same _ _ _ (f p) (f q) (f r) (ap f sp) (ap f sq) (ap f sr) ∙ sym old) in
      let la' : length (map f a) ≡ length a = length-map a f in
      let lb' : length (map f b) ≡ length b = length-map b f in
      let lc' : length (map f c) ≡ length c = length-map c f in
      let next = one_more w t m n (map f a) (map f b) (map f c) (map f a') (map f b') (map f c') (f x) (f y) (f z) mn u (omega (arith, la')) (lb' ∙ second ∙ sym la') (lc' ∙ third ∙ sym la') (subst (IsTripleOf w) (sym old) fits) new in
      subst (λ xs. FinishesCells w t m (n + 1) (map f a) (map f b) (map f c) xs (map f (slice_set b' n y)) (map f (slice_set c' n z))) (sym (map-set f a' n x))
      (subst (λ xs. FinishesCells w t m (n + 1) (map f a) (map f b) (map f c) (slice_set (map f a') n (f x)) xs (map f (slice_set c' n z))) (sym (map-set f b' n y))
      (subst (λ xs. FinishesCells w t m (n + 1) (map f a) (map f b) (map f c) (slice_set (map f a') n (f x)) (slice_set (map f b') n (f y)) xs) (sym (map-set f c' n z)) next))

  pub end : (m n : ℕ) (a b c a' b' c' : List S) → Cells m n a b c a' b' c' → length a ≤ n → Cells m (length a) a b c a' b' c'
  end m n a b c a' b' c' u le =
      let la : length (map f a) ≡ length a = length-map a f in
      subst (λ k. Cells m k a b c a' b' c') la (cells_end w t m n (map f a) (map f b) (map f c) (map f a') (map f b') (map f c') u (omega (arith, la)))
