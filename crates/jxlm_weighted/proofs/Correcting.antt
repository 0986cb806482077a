-- The errors that are kept, and those of a sample more.
use Rattle.std.proofs.Common.{◌≡◌, ℕ, zero, suc, ◌+◌, ◌-◌, ◌*◌, ◌<◌, ◌≤◌, inl, inr, ℤ, pos, List, [], ◌∷◌, ◌++◌, length, set, get_or, take, Bool, not, sym, ap, refl, ◌∙◌, arith, length-append}
use Rattle.std.specs.Prelude.{map, nat_lt}
use Rattle.std.proofs.lemmas.List.{get_or-set_same, get_or-set_other, get_or_append_left, get_or_push, take-append-le}
use Rattle.std.proofs.Math.Seq.{take-length}
use Rattle.std.proofs.lemmas.Bool.{cases_lt, lt-ltb, le-ltb}
use Rattle.jxlm_weighted.specs.Neighbours.{neighbours, column, row}
use Rattle.jxlm_weighted.specs.Correcting.{KeepsErrors}
use Rattle.jxlm_weighted.specs.Inner.CorrectingSteps.{errors_from, sums_from, errors_above_left, errors_above_right}
use Rattle.jxlm_weighted.specs.SelfCorrecting.{Errors, ErrorsNear, no_errors, errors_at, errors_above, errors_left, errors_near, near, sub_predictions, predicted, errors_of, errors_after}
use Rattle.jxlm_weighted.specs.declared.weights.WpHeader.{WpHeader}
use Rattle.jxlm_weighted.proofs.Causal.{errors_same}

-- ---- the errors around a cell

module _ (errors : List Errors) (width : ℕ) where
  above_left_is : (x y : ℕ) → errors_above_left errors width x y ≡ errors_above errors width (x - 1) y
  above_left_is zero y = refl
  above_left_is (suc x) y = let e : suc x - 1 ≡ x = omega arith in rw e refl

module _ (errors : List Errors) (width x y : ℕ) (nw ww n w ne : Errors) (last : Bool) where
  -- what is known at the neighbours is what is known around the cell
  pub near_is : nw ≡ errors_above_left errors width x y → n ≡ errors_above errors width x y → ne ≡ errors_above_right errors width x y → w ≡ errors_left errors width x y → ww ≡ errors_left errors width (x - 1) y →
      last ≡ not (nat_lt (x + 1) width) →
      ◌≡◌ {A = ErrorsNear} (record { w = w.true_error; n = n.true_error; nw = nw.true_error; ne = ne.true_error; sums = sums_from nw.sub_errors ww.sub_errors n.sub_errors w.sub_errors ne.sub_errors last })
      (errors_near errors width x y)
  near_is a b c left two_left d =
      let above_left = a ∙ above_left_is errors width x y in
      elim (cases_lt (x + 1) width) [
        | inl lt ↦ (let t = lt-ltb (x + 1) width lt in rw (above_left, b, c, d, left, two_left) (rw t refl))
        | inr ge ↦ (let t = le-ltb (x + 1) width ge in rw (above_left, b, c, d, left, two_left) (rw t refl))
      ]

-- ---- a sample more

errors_at-push : (errors : List Errors) (e : Errors) (width x y : ℕ) → y * width + x < length errors → errors_at (errors ++ e ∷ []) width x y ≡ errors_at errors width x y
errors_at-push errors e width x y h = get_or_append_left errors (e ∷ []) no_errors (y * width + x) h

errors_at-push_last : (errors : List Errors) (e : Errors) (width x y : ℕ) → length errors ≡ y * width + x → errors_at (errors ++ e ∷ []) width x y ≡ e
errors_at-push_last errors e width x y h = get_or_push errors e no_errors (y * width + x) h

module _ (width x y : ℕ) (e : Errors) (previous current errors : List Errors) where
  current_more : KeepsErrors width x y previous current errors → length errors ≡ y * width + x → x < width → width ≤ length current →
      (i : ℕ) → i < x + 1 → get_or (set current x e) i no_errors ≡ errors_at (errors ++ e ∷ []) width i y
  current_more k place in_row len i h =
      elim (cases_lt i x) [
        | inl lt ↦ get_or-set_other current x i e no_errors (λ d. let d' : i ≡ x = d in omega arith) ∙ k.current_is i lt ∙ sym (errors_at-push errors e width i y (omega arith))
        | inr ge ↦
            let d : i ≡ x = omega arith in
            rw d (get_or-set_same current x e no_errors (omega arith) ∙ sym (errors_at-push_last errors e width x y place))
      ]

  -- in the row
  pub KeepsErrors_row : KeepsErrors width x y previous current errors → length errors ≡ y * width + x → x + 1 < width → width ≤ length current →
      KeepsErrors width (x + 1) y previous (set current x e) (errors ++ e ∷ [])
  KeepsErrors_row k place in_row len = record {
    current_is = current_more k place (omega arith) len;
    previous_is = λ i above lt d. k.previous_is i above lt d ∙ sym (errors_at-push errors e width i above (let p = rw d at place in omega arith));
  }

  -- at its end
  pub KeepsErrors_end : KeepsErrors width x y previous current errors → length errors ≡ y * width + x → x < width → width ≤ x + 1 → width ≤ length current →
      KeepsErrors width 0 (y + 1) (set current x e) previous (errors ++ e ∷ [])
  KeepsErrors_end k place in_row ends len = record {
    current_is = λ i lt. absurd (omega arith);
    previous_is = λ i above lt d. let d' : y ≡ above = omega arith in rw (← d') (current_more k place in_row len i (omega arith));
  }

-- ---- the errors by recursion

pub length-errors_of : (header : WpHeader) (samples : List ℤ) (width i : ℕ) → length (errors_of header samples width i) ≡ i
length-errors_of header samples width zero = refl
length-errors_of header samples width (suc i) = let n = length-errors_of header samples width i in omega (arith, length-append (errors_of header samples width i) (errors_after header (take i samples) width (errors_of header samples width i) (get_or samples i (pos 0)) ∷ []))

-- those of a sample more are the errors before and its own
pub errors_of-push : (header : WpHeader) (samples : List ℤ) (width : ℕ) (s : ℤ) →
    errors_of header (samples ++ s ∷ []) width (length (samples ++ s ∷ [])) ≡ errors_of header samples width (length samples) ++ errors_after header samples width (errors_of header samples width (length samples)) s ∷ []
errors_of-push header samples width s =
    let n : length (samples ++ s ∷ []) ≡ suc (length samples) = omega (arith, length-append samples (s ∷ [])) in
    let before : take (length samples) (samples ++ s ∷ []) ≡ samples = take-append-le (length samples) samples (s ∷ []) (omega arith) ∙ take-length samples in
    let same = errors_same header width (samples ++ s ∷ []) samples (length samples) (before ∙ sym (take-length samples)) in
    let last : get_or (samples ++ s ∷ []) (length samples) (pos 0) ≡ s = get_or_push samples s (pos 0) (length samples) refl in
    rw n (rw (same, before, last) refl)

pub then_is : (header : WpHeader) (samples : List ℤ) (width : ℕ) (errors : List Errors) (p : ℤ) (f : List ℤ) (s : ℤ) → p ≡ predicted header (neighbours samples width) (errors_near errors width (column samples width) (row samples width)) →
    f ≡ sub_predictions header (neighbours samples width) (errors_near errors width (column samples width) (row samples width)) → errors_from p f s ≡ errors_after header samples width errors s
then_is header samples width errors p f s a b = rw (a, b) refl

pub map-set : {X Y : Type 0} (f : X → Y) (xs : List X) (i : ℕ) (v : X) → map f (set xs i v) ≡ set (map f xs) i (f v)
map-set f [] i v = refl
map-set f (x ∷ xs) zero v = refl
map-set f (x ∷ xs) (suc i) v = ap (λ ys. f x ∷ ys) (map-set f xs i v)

-- the errors around the cell after the samples
pub near_at : (header : WpHeader) (samples : List ℤ) (width x y : ℕ) → column samples width ≡ x → row samples width ≡ y →
    errors_near (errors_of header samples width (length samples)) width x y ≡ near header samples width
near_at header samples width x y cx cy = rw (← cx, ← cy) refl
