-- Squeezing loses nothing.
use Rattle.std.proofs.Common.{◌≡◌, ℕ, zero, suc, ◌+◌, ◌-◌, ◌*◌, ◌/◌, ◌%◌, ◌<◌, ◌≤◌, Bool, nat_lt, cond, inl, inr, ℤ, pos, ◌+ℤ◌, ◌-ℤ◌, neg_ℤ, int_div, FitsSigned, sym, ap, ◌∙◌, subst, arith}
use Rattle.std.specs.Int.{Width, int_wrap}
use Rattle.std.proofs.lemmas.Bool.{cases_lt, lt-ltb, le-ltb}
use Rattle.std.proofs.lemmas.Int.{int_wrap_fits, int_wrap-add_left, int_wrap-sub_right, SFits-int_wrap}
use Rattle.std.proofs.Math.IntN.{+ℤ-neg_ℤ_cancel, -ℤ-+ℤ_cancel, +ℤ_assoc, +ℤ_invr, +ℤ_idl, neg_ℤ-+ℤ, neg_ℤ-neg_ℤ}
use Rattle.jxlm_lanes.specs.Squeeze.{tendency, averages, AreSamples, difference, average, average_at, sample_before, average_after, residual_at, squeezed, AreSame, SqueezeLosesNothing}
use Rattle.jxlm_lanes.specs.Pairs.{pair_difference, first_of, second_of, next_in, before_in, first_in, IsUnsqueezed}

taken_back : (a b : ℤ) → a -ℤ (a -ℤ b) ≡ b
taken_back a b =
    ap (λ z. a +ℤ z) (neg_ℤ-+ℤ a (neg_ℤ b) ∙ ap (λ z. neg_ℤ a +ℤ z) (neg_ℤ-neg_ℤ b)) ∙ sym (+ℤ_assoc a (neg_ℤ a) b) ∙ ap (λ z. z +ℤ b) (+ℤ_invr a) ∙ +ℤ_idl b

pub if_lt : {X : Type 0} (a b : ℕ) (x y : X) → a < b → cond (nat_lt a b) x y ≡ x
if_lt a b x y h = ap (λ (t : Bool). cond t x y) (lt-ltb a b h)

pub if_ge : {X : Type 0} (a b : ℕ) (x y : X) → b ≤ a → cond (nat_lt a b) x y ≡ y
if_ge a b x y h = ap (λ (t : Bool). cond t x y) (le-ltb a b h)

module _ (w : Width) where
  minus-plus : (x y : ℤ) → FitsSigned w x → int_wrap w (int_wrap w (x -ℤ y) +ℤ y) ≡ x
  minus-plus x y fits = int_wrap-add_left w (x -ℤ y) y ∙ ap (int_wrap w) (-ℤ-+ℤ_cancel x y) ∙ int_wrap_fits w x fits

  plus-minus : (x y : ℤ) → FitsSigned w x → int_wrap w (int_wrap w (x +ℤ y) -ℤ y) ≡ x
  plus-minus x y fits = int_wrap-add_left w (x +ℤ y) (neg_ℤ y) ∙ ap (int_wrap w) (+ℤ-neg_ℤ_cancel x y) ∙ int_wrap_fits w x fits

  minus-minus : (a b : ℤ) → FitsSigned w b → int_wrap w (a -ℤ int_wrap w (a -ℤ b)) ≡ b
  minus-minus a b fits = int_wrap-sub_right w a (a -ℤ b) ∙ ap (int_wrap w) (taken_back a b) ∙ int_wrap_fits w b fits

  -- ---- a pair

  difference_of_pair : (b m x r : ℤ) → difference w (first_of w b m x r) (second_of w b m x r) ≡ pair_difference w b m x r
  difference_of_pair b m x r = minus-minus (first_of w b m x r) (pair_difference w b m x r) (SFits-int_wrap w (r +ℤ tendency b m x))

  average_of_pair : (b m x r : ℤ) → FitsSigned w m → average w (first_of w b m x r) (second_of w b m x r) ≡ m
  average_of_pair b m x r fits =
      ap (λ d. int_wrap w (first_of w b m x r -ℤ int_div d (pos 2))) (difference_of_pair b m x r)
      ∙ plus-minus m (int_div (pair_difference w b m x r) (pos 2)) fits

  residual_of_pair : (b m x r : ℤ) → FitsSigned w r → int_wrap w (difference w (first_of w b m x r) (second_of w b m x r) -ℤ tendency b m x) ≡ r
  residual_of_pair b m x r fits = ap (λ d. int_wrap w (d -ℤ tendency b m x)) (difference_of_pair b m x r) ∙ plus-minus r (tendency b m x) fits

  pair_back : (b x p q : ℤ) → FitsSigned w p → FitsSigned w q →
      let m : ℤ = average w p q in
      let r : ℤ = int_wrap w (difference w p q -ℤ tendency b m x) in (first_of w b m x r ≡ p) × (second_of w b m x r ≡ q)
  pair_back b x p q fp fq =
      let m : ℤ = average w p q in
      let r : ℤ = int_wrap w (difference w p q -ℤ tendency b m x) in
      let d : pair_difference w b m x r ≡ difference w p q = minus-plus (difference w p q) (tendency b m x) (SFits-int_wrap w (p -ℤ q)) in
      let first : first_of w b m x r ≡ p = ap (λ d. int_wrap w (m +ℤ int_div d (pos 2))) d ∙ minus-plus p (int_div (difference w p q) (pos 2)) fp in
      (first, ap (λ d. int_wrap w (first_of w b m x r -ℤ d)) d ∙ ap (λ a. int_wrap w (a -ℤ difference w p q)) first ∙ minus-minus p q fq)

-- what holds of the samples of each pair and of a last single sample holds of each sample
by_pairs : (P : ℕ → Type 0) (n : ℕ) → ((k : ℕ) → k < n / 2 → P (2 * k)) → ((k : ℕ) → k < n / 2 → P (2 * k + 1)) → (n / 2 < averages n → P (2 * (n / 2))) → (i : ℕ) → i < n → P i
by_pairs P n even odd single i h =
    elim (cases_lt (i / 2) (n / 2)) [
      | inl lt ↦
          elim (cases_lt (i % 2) 1) [
            | inl e ↦ let is : 2 * (i / 2) ≡ i = omega arith in subst P is (even (i / 2) lt)
            | inr o ↦ let is : 2 * (i / 2) + 1 ≡ i = omega arith in subst P is (odd (i / 2) lt)
          ]
      | inr ge ↦ let is : 2 * (n / 2) ≡ i = omega arith in subst P is (single (omega arith))
    ]

-- ---- an undone row is squeezed to what was undone

module _ (w : Width) (n : ℕ) (code row : ℕ → ℤ) (fits : AreSamples w n code) (u : IsUnsqueezed w n code row) where
  average_is : (k : ℕ) → k < averages n → average_at w n row k ≡ code k
  average_is k h =
      elim (cases_lt k (n / 2)) [
        | inl lt ↦
            if_lt k (n / 2) (average w (row (2 * k)) (row (2 * k + 1))) (row (2 * k)) lt
            ∙ ap (λ p. average w p (row (2 * k + 1))) (u.first k lt) ∙ ap (λ q. average w (first_in w n code k) q) (u.second k lt)
            ∙ average_of_pair w (before_in w n code k) (code k) (next_in n code k) (code (averages n + k)) (fits k (omega arith))
        | inr ge ↦
            let is : k ≡ n / 2 = omega arith in
            if_ge k (n / 2) (average w (row (2 * k)) (row (2 * k + 1))) (row (2 * k)) ge
            ∙ ap (λ k. row (2 * k)) is ∙ u.single (omega arith) ∙ ap code (sym is)
      ]

  sample_before_is : (k : ℕ) → k < n / 2 → sample_before w n row k ≡ before_in w n code k
  sample_before_is zero h = if_ge 0 0 (row (2 * 0 - 1)) (average_at w n row 0) (omega arith) ∙ average_is 0 (omega arith)
  sample_before_is (suc j) h = let is : 2 * suc j - 1 ≡ 2 * j + 1 = omega arith in if_lt 0 (suc j) (row (2 * suc j - 1)) (average_at w n row (suc j)) (omega arith) ∙ ap row is ∙ u.second j (omega arith)

  average_after_is : (k : ℕ) → k < n / 2 → average_after w n row k ≡ next_in n code k
  average_after_is k h =
      elim (cases_lt (k + 1) (averages n)) [
        | inl lt ↦ if_lt (k + 1) (averages n) (average_at w n row (k + 1)) (average_at w n row k) lt ∙ average_is (k + 1) lt ∙ sym (if_lt (k + 1) (averages n) (code (k + 1)) (code k) lt)
        | inr ge ↦ if_ge (k + 1) (averages n) (average_at w n row (k + 1)) (average_at w n row k) ge ∙ average_is k (omega arith) ∙ sym (if_ge (k + 1) (averages n) (code (k + 1)) (code k) ge)
      ]

  residual_is : (k : ℕ) → k < n / 2 → residual_at w n row k ≡ code (averages n + k)
  residual_is k h =
      let b : ℤ = before_in w n code k in
      let x : ℤ = next_in n code k in
      let r : ℤ = code (averages n + k) in
      let p : ℤ = first_in w n code k in
      ap (λ p. int_wrap w (difference w p (row (2 * k + 1)) -ℤ tendency (sample_before w n row k) (average_at w n row k) (average_after w n row k))) (u.first k h)
      ∙ ap (λ q. int_wrap w (difference w p q -ℤ tendency (sample_before w n row k) (average_at w n row k) (average_after w n row k))) (u.second k h)
      ∙ ap (λ b. int_wrap w (difference w p (second_of w (before_in w n code k) (code k) x r) -ℤ tendency b (average_at w n row k) (average_after w n row k))) (sample_before_is k h)
      ∙ ap (λ m. int_wrap w (difference w p (second_of w b (code k) x r) -ℤ tendency b m (average_after w n row k))) (average_is k (omega arith))
      ∙ ap (λ y. int_wrap w (difference w p (second_of w b (code k) x r) -ℤ tendency b (code k) y)) (average_after_is k h)
      ∙ residual_of_pair w b (code k) x r (fits (averages n + k) (omega arith))

  pub squeezed_is : AreSame n (squeezed w n row) code
  squeezed_is i h =
      elim (cases_lt i (averages n)) [
        | inl lt ↦ if_lt i (averages n) (average_at w n row i) (residual_at w n row (i - averages n)) lt ∙ average_is i lt
        | inr ge ↦
            let is : averages n + (i - averages n) ≡ i = omega arith in
            if_ge i (averages n) (average_at w n row i) (residual_at w n row (i - averages n)) ge ∙ residual_is (i - averages n) (omega arith) ∙ ap code is
      ]

  pub samples_of_undone : AreSamples w n row
  samples_of_undone =
      by_pairs (λ i. FitsSigned w (row i)) n
      (λ k h. subst (FitsSigned w) (sym (u.first k h)) (SFits-int_wrap w (code k +ℤ int_div (pair_difference w (before_in w n code k) (code k) (next_in n code k) (code (averages n + k))) (pos 2))))
      (λ k h. subst (FitsSigned w) (sym (u.second k h)) (SFits-int_wrap w (first_in w n code k -ℤ pair_difference w (before_in w n code k) (code k) (next_in n code k) (code (averages n + k)))))
      (λ h. subst (FitsSigned w) (sym (u.single h)) (fits (n / 2) (omega arith)))

-- ---- a squeezed row undone is the row

module _ (w : Width) (n : ℕ) (row : ℕ → ℤ) (fits : AreSamples w n row) where
  average_there : (k : ℕ) → k < averages n → squeezed w n row k ≡ average_at w n row k
  average_there k h = if_lt k (averages n) (average_at w n row k) (residual_at w n row (k - averages n)) h

  residual_there : (k : ℕ) → squeezed w n row (averages n + k) ≡ residual_at w n row k
  residual_there k =
      let is : averages n + k - averages n ≡ k = omega arith in
      if_ge (averages n + k) (averages n) (average_at w n row (averages n + k)) (residual_at w n row (averages n + k - averages n)) (omega arith) ∙ ap (residual_at w n row) is

  next_there : (k : ℕ) → k < n / 2 → next_in n (squeezed w n row) k ≡ average_after w n row k
  next_there k h =
      elim (cases_lt (k + 1) (averages n)) [
        | inl lt ↦ if_lt (k + 1) (averages n) (squeezed w n row (k + 1)) (squeezed w n row k) lt ∙ average_there (k + 1) lt ∙ sym (if_lt (k + 1) (averages n) (average_at w n row (k + 1)) (average_at w n row k) lt)
        | inr ge ↦ if_ge (k + 1) (averages n) (squeezed w n row (k + 1)) (squeezed w n row k) ge ∙ average_there k (omega arith) ∙ sym (if_ge (k + 1) (averages n) (average_at w n row (k + 1)) (average_at w n row k) ge)
      ]

  pair_there : (k : ℕ) → k < n / 2 → before_in w n (squeezed w n row) k ≡ sample_before w n row k →
      (first_in w n (squeezed w n row) k ≡ row (2 * k)) × (before_in w n (squeezed w n row) (suc k) ≡ row (2 * k + 1))
  pair_there k h e =
      let c : ℕ → ℤ = squeezed w n row in
      let b : ℤ = sample_before w n row k in
      let x : ℤ = average_after w n row k in
      let p : ℤ = row (2 * k) in
      let q : ℤ = row (2 * k + 1) in
      let a : average_at w n row k ≡ average w p q = if_lt k (n / 2) (average w p q) p h in
      let m : c k ≡ average w p q = average_there k (omega arith) ∙ a in
      let r : c (averages n + k) ≡ int_wrap w (difference w p q -ℤ tendency b (average w p q) x) = residual_there k ∙ ap (λ m. int_wrap w (difference w p q -ℤ tendency b m x)) a in
      let back = pair_back w b x p q (fits (2 * k) (omega arith)) (fits (2 * k + 1) (omega arith)) in
      let moved : (f : ℤ → ℤ → ℤ → ℤ → ℤ) → f (before_in w n c k) (c k) (next_in n c k) (c (averages n + k)) ≡ f b (average w p q) x (int_wrap w (difference w p q -ℤ tendency b (average w p q) x)) = λ f.
      ap (λ b. f b (c k) (next_in n c k) (c (averages n + k))) e
      ∙ ap (λ m. f b m (next_in n c k) (c (averages n + k))) m
      ∙ ap (λ y. f b (average w p q) y (c (averages n + k))) (next_there k h)
      ∙ ap (f b (average w p q) x) r
      in (moved (first_of w) ∙ back.0, moved (second_of w) ∙ back.1)

  before_there : (k : ℕ) → k < n / 2 → before_in w n (squeezed w n row) k ≡ sample_before w n row k
  before_there zero h = average_there 0 (omega arith) ∙ sym (if_ge 0 0 (row (2 * 0 - 1)) (average_at w n row 0) (omega arith))
  before_there (suc j) h =
      let is : 2 * j + 1 ≡ 2 * suc j - 1 = omega arith in
      (pair_there j (omega arith) (before_there j (omega arith))).1 ∙ ap row is ∙ sym (if_lt 0 (suc j) (row (2 * suc j - 1)) (average_at w n row (suc j)) (omega arith))

  pub squeezed_undone : IsUnsqueezed w n (squeezed w n row) row
  squeezed_undone = record {
    first = λ k h. sym (pair_there k h (before_there k h)).0;
    second = λ k h. sym (pair_there k h (before_there k h)).1;
    single = λ h. sym (average_there (n / 2) h ∙ if_ge (n / 2) (n / 2) (average w (row (2 * (n / 2))) (row (2 * (n / 2) + 1))) (row (2 * (n / 2))) (omega arith));
  }

-- ---- one coded row is undone in one way

module _ (w : Width) (n : ℕ) (c d : ℕ → ℤ) (same : AreSame n c d) where
  next_same : (k : ℕ) → k < n / 2 → next_in n c k ≡ next_in n d k
  next_same k h =
      elim (cases_lt (k + 1) (averages n)) [
        | inl lt ↦ if_lt (k + 1) (averages n) (c (k + 1)) (c k) lt ∙ same (k + 1) (omega arith) ∙ sym (if_lt (k + 1) (averages n) (d (k + 1)) (d k) lt)
        | inr ge ↦ if_ge (k + 1) (averages n) (c (k + 1)) (c k) ge ∙ same k (omega arith) ∙ sym (if_ge (k + 1) (averages n) (d (k + 1)) (d k) ge)
      ]

  moved : (f : ℤ → ℤ → ℤ → ℤ → ℤ) (k : ℕ) → k < n / 2 → before_in w n c k ≡ before_in w n d k →
      f (before_in w n c k) (c k) (next_in n c k) (c (averages n + k)) ≡ f (before_in w n d k) (d k) (next_in n d k) (d (averages n + k))
  moved f k h e =
      ap (λ b. f b (c k) (next_in n c k) (c (averages n + k))) e ∙ ap (λ m. f (before_in w n d k) m (next_in n c k) (c (averages n + k))) (same k (omega arith))
      ∙ ap (λ y. f (before_in w n d k) (d k) y (c (averages n + k))) (next_same k h) ∙ ap (f (before_in w n d k) (d k) (next_in n d k)) (same (averages n + k) (omega arith))

  before_same : (k : ℕ) → k < n / 2 → before_in w n c k ≡ before_in w n d k
  before_same zero h = same 0 (omega arith)
  before_same (suc k) h = moved (second_of w) k (omega arith) (before_same k (omega arith))

  -- what is undone depends on the first n samples alone
  pub IsUnsqueezed_same : (a b : ℕ → ℤ) → AreSame n a b → IsUnsqueezed w n c a → IsUnsqueezed w n d b
  IsUnsqueezed_same a b equal u = record {
    first = λ k h. sym (equal (2 * k) (omega arith)) ∙ u.first k h ∙ moved (first_of w) k h (before_same k h);
    second = λ k h. sym (equal (2 * k + 1) (omega arith)) ∙ u.second k h ∙ moved (second_of w) k h (before_same k h);
    single = λ h. sym (equal (2 * (n / 2)) (omega arith)) ∙ u.single h ∙ same (n / 2) (omega arith);
  }

  pub undone_same : (a b : ℕ → ℤ) → IsUnsqueezed w n c a → IsUnsqueezed w n d b → AreSame n a b
  undone_same a b u v =
      by_pairs (λ i. a i ≡ b i) n
      (λ k h. u.first k h ∙ moved (first_of w) k h (before_same k h) ∙ sym (v.first k h))
      (λ k h. u.second k h ∙ moved (second_of w) k h (before_same k h) ∙ sym (v.second k h))
      (λ h. u.single h ∙ same (n / 2) (omega arith) ∙ sym (v.single h))

-- ---- the row of a coded row

module _ (w : Width) (n : ℕ) (code : ℕ → ℤ) where
  abbrev undone : ℕ → ℤ
  undone i = cond (nat_lt (i / 2) (n / 2)) (cond (nat_lt (i % 2) 1) (first_in w n code (i / 2)) (before_in w n code (suc (i / 2)))) (code (i / 2))

  undone_is : IsUnsqueezed w n code undone
  undone_is = record {
    first = λ k h.
        let half : 2 * k / 2 ≡ k = omega arith in
        let even : 2 * k % 2 < 1 = omega arith in
        if_lt (2 * k / 2) (n / 2) (cond (nat_lt (2 * k % 2) 1) (first_in w n code (2 * k / 2)) (before_in w n code (suc (2 * k / 2)))) (code (2 * k / 2)) (omega arith)
        ∙ if_lt (2 * k % 2) 1 (first_in w n code (2 * k / 2)) (before_in w n code (suc (2 * k / 2))) even
        ∙ ap (first_in w n code) half;
    second = λ k h.
        let half : (2 * k + 1) / 2 ≡ k = omega arith in
        let odd : 1 ≤ (2 * k + 1) % 2 = omega arith in
        if_lt ((2 * k + 1) / 2) (n / 2) (cond (nat_lt ((2 * k + 1) % 2) 1) (first_in w n code ((2 * k + 1) / 2)) (before_in w n code (suc ((2 * k + 1) / 2)))) (code ((2 * k + 1) / 2)) (omega arith)
        ∙ if_ge ((2 * k + 1) % 2) 1 (first_in w n code ((2 * k + 1) / 2)) (before_in w n code (suc ((2 * k + 1) / 2))) odd
        ∙ ap (λ k. before_in w n code (suc k)) half;
    single = λ h.
        let half : 2 * (n / 2) / 2 ≡ n / 2 = omega arith in
        if_ge (2 * (n / 2) / 2) (n / 2) (cond (nat_lt (2 * (n / 2) % 2) 1) (first_in w n code (2 * (n / 2) / 2)) (before_in w n code (suc (2 * (n / 2) / 2)))) (code (2 * (n / 2) / 2)) (omega arith)
        ∙ ap code half;
  }

pub samples_of_coded : (w : Width) (n : ℕ) (row : ℕ → ℤ) → AreSamples w n row → AreSamples w n (squeezed w n row)
samples_of_coded w n row fits i h =
    elim (cases_lt i (averages n)) [
      | inl lt ↦
          subst (FitsSigned w) (sym (if_lt i (averages n) (average_at w n row i) (residual_at w n row (i - averages n)) lt))
          (elim (cases_lt i (n / 2)) [
            | inl pair ↦ subst (FitsSigned w) (sym (if_lt i (n / 2) (average w (row (2 * i)) (row (2 * i + 1))) (row (2 * i)) pair)) (SFits-int_wrap w (row (2 * i) -ℤ int_div (difference w (row (2 * i)) (row (2 * i + 1))) (pos 2)))
            | inr alone ↦ subst (FitsSigned w) (sym (if_ge i (n / 2) (average w (row (2 * i)) (row (2 * i + 1))) (row (2 * i)) alone)) (fits (2 * i) (omega arith))
          ])
      | inr ge ↦
          let k : ℕ = i - averages n in
          subst (FitsSigned w) (sym (if_ge i (averages n) (average_at w n row i) (residual_at w n row k) ge))
          (SFits-int_wrap w (difference w (row (2 * k)) (row (2 * k + 1)) -ℤ tendency (sample_before w n row k) (average_at w n row k) (average_after w n row k)))
    ]

pub squeeze_loses_nothing : (w : Width) → SqueezeLosesNothing w
squeeze_loses_nothing w = record {
  coded = samples_of_coded w;
  each = λ n code fits. (undone w n code, samples_of_undone w n code (undone w n code) fits (undone_is w n code), squeezed_is w n code (undone w n code) fits (undone_is w n code));
  one = λ n a b fa fb same. undone_same w n (squeezed w n a) (squeezed w n b) same a b (squeezed_undone w n a fa) (squeezed_undone w n b fb);
}
