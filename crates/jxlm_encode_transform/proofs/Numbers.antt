-- Lines written sample by sample.
use Rattle.std.proofs.Common.{◌≡◌, ◌≢◌, ℕ, ◌+◌, ◌*◌, ◌/◌, ◌-◌, ◌<◌, ◌≤◌, inl, inr, ℤ, pos, ◌-ℤ◌, List, ◌++◌, length, map, set, get_or, sym, ap, ◌∙◌, subst, arith}
use Rattle.std.specs.Int.{Width, int_wrap}
use Rattle.std.proofs.Math.ListN.{length-set, get_or-map}
use Rattle.std.proofs.lemmas.Bool.{cases_lt}
use Rattle.std.proofs.lemmas.List.{get_or-set_same, get_or-set_other, get_or_default, get_or_append_left, get_or-append_right, length-map, map-set, map-append}
use Rattle.jxlm_lanes.specs.Squeeze.{tendency, difference, averages, average_at, residual_at, squeezed, AreSame}
use Rattle.jxlm_lanes.proofs.SqueezeLaws.{if_lt, if_ge}
use Rattle.jxlm_encode_transform.specs.Inner.Lines.{number_in, AreAverages, AreResiduals}

-- what holds below k and at k holds below k + 1
pub below_next : (P : ℕ → Type 0) (k : ℕ) → ((i : ℕ) → i < k → P i) → P k → (i : ℕ) → i < k + 1 → P i
below_next P k h p i lt = elim (cases_lt i k) [ inl l ↦ h i l | inr g ↦ let e : k ≡ i = omega arith in subst P e p ]

-- and of a pair
pub pair_next : (P : ℕ → Type 0) (k : ℕ) → ((i : ℕ) → i < 2 * k → P i) → P (2 * k) → P (2 * k + 1) → (i : ℕ) → i < 2 * (k + 1) → P i
pair_next P k h p q i lt = below_next P (2 * k + 1) (below_next P (2 * k) h p) q i (omega arith)

-- the residual of a pair, by other names
pub residual_same : (w : Width) (a b before own next a' b' before' own' next' : ℤ) → before ≡ before' → own ≡ own' → next ≡ next' → a ≡ a' → b ≡ b' →
    int_wrap w (difference w a b -ℤ tendency before own next) ≡ int_wrap w (difference w a' b' -ℤ tendency before' own' next')
residual_same w a b before own next a' b' before' own' next' e1 e2 e3 e4 e5 =
    ap (λ z. int_wrap w (difference w z b -ℤ tendency before own next)) e4
    ∙ ap (λ z. int_wrap w (difference w a' z -ℤ tendency before own next)) e5
    ∙ ap (λ z. int_wrap w (difference w a' b' -ℤ tendency z own next)) e1
    ∙ ap (λ z. int_wrap w (difference w a' b' -ℤ tendency before' z next)) e2
    ∙ ap (λ z. int_wrap w (difference w a' b' -ℤ tendency before' own' z)) e3

module _ {S : Type 0} (f : S → ℤ) where
  -- the number of an element that was read
  pub number_read : (xs : List S) (i : ℕ) (x : S) → i < length xs → x ≡ get_or xs i x → number_in f xs i ≡ f x
  number_read xs i x h is =
      let long = length-map xs f in
      get_or_default (map f xs) i (pos 0) (f x) (omega (arith, long, h)) ∙ get_or-map f xs i x ∙ ap f (sym is)

  pub number_set_same : (xs : List S) (i : ℕ) (v : S) → i < length xs → number_in f (set xs i v) i ≡ f v
  number_set_same xs i v h = let n = length-set xs i v in number_read (set xs i v) i v (omega (arith, n, h)) (sym (get_or-set_same xs i v v h))

  pub number_set_other : (xs : List S) (i j : ℕ) (v : S) → j ≢ i → number_in f (set xs i v) j ≡ number_in f xs j
  number_set_other xs i j v ne = ap (λ ys. get_or ys j (pos 0)) (map-set f xs i v) ∙ get_or-set_other (map f xs) i j (f v) (pos 0) ne

  -- one sample more has the number that it should have
  pub put_next : (xs : List S) (k : ℕ) (v : S) (value : ℕ → ℤ) → k < length xs → f v ≡ value k → ((i : ℕ) → i < k → number_in f xs i ≡ value i) →
      (i : ℕ) → i < k + 1 → number_in f (set xs k v) i ≡ value i
  put_next xs k v value h is so_far =
      below_next (λ i. number_in f (set xs k v) i ≡ value i) k (λ i l. number_set_other xs k i v (omega arith) ∙ so_far i l) (number_set_same xs k v h ∙ is)

  -- numbers of two lists, one after the other
  pub number_left : (xs ys : List S) (i : ℕ) → i < length xs → number_in f (xs ++ ys) i ≡ number_in f xs i
  number_left xs ys i h =
      let long = length-map xs f in
      ap (λ zs. get_or zs i (pos 0)) (map-append f xs ys) ∙ get_or_append_left (map f xs) (map f ys) (pos 0) i (omega (arith, long, h))

  pub number_right : (xs ys : List S) (n i : ℕ) → length xs ≡ n → n ≤ i → number_in f (xs ++ ys) i ≡ number_in f ys (i - n)
  number_right xs ys n i len h =
      ap (λ zs. get_or zs i (pos 0)) (map-append f xs ys) ∙ get_or-append_right (map f xs) (map f ys) n i (pos 0) (length-map xs f ∙ len) h

  -- averages, and then residuals
  pub squeezed_halves : (w : Width) (line ms rs : List S) → length ms ≡ averages (length line) → AreAverages f w line ms (averages (length line)) → AreResiduals f w line rs (length line / 2) →
      AreSame (length line) (number_in f (ms ++ rs)) (squeezed w (length line) (number_in f line))
  squeezed_halves w line ms rs len are_averages are_residuals i lt =
      let n : ℕ = length line in
      let row : ℕ → ℤ = number_in f line in
      elim (cases_lt i (averages n)) [
        | inl l ↦ number_left ms rs i (omega (arith, len, l)) ∙ are_averages i l ∙ sym (if_lt i (averages n) (average_at w n row i) (residual_at w n row (i - averages n)) l)
        | inr g ↦
            number_right ms rs (averages n) i len g ∙ are_residuals (i - averages n) (omega arith)
            ∙ sym (if_ge i (averages n) (average_at w n row i) (residual_at w n row (i - averages n)) g)
      ]
