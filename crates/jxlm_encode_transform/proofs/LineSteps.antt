-- Lines that stand one after the other in a list: what is read there, and what a line written over leaves.
use Rattle.std.proofs.Common.{◌≡◌, ℕ, ◌+◌, ◌*◌, ◌-◌, ◌<◌, ◌≤◌, inl, inr, ℤ, pos, List, ◌++◌, length, map, take, drop, get_or, sym, ap, ◌∙◌, arith}
use Rattle.std.specs.Prelude.{slice_range}
use Rattle.std.specs.List.{take-map}
use Rattle.std.proofs.lemmas.Bool.{cases_lt}
use Rattle.std.proofs.lemmas.List.{get_or-take, get_or-drop, length-take-le, drop-map}
use Rattle.jxlm_encode_transform.specs.Inner.Lines.{number_in}
use Rattle.jxlm_encode_transform.proofs.Numbers.{below_next, number_left, number_right}
use Rattle.jxlm_encode_transform.specs.Inner.Squeezed.{AreLines}
use Rattle.jxlm_encode_transform.proofs.StripSteps.{below_line}

module _ {S : Type 0} (f : S → ℤ) where
  number_take : (xs : List S) (a i : ℕ) → i < a → number_in f (take a xs) i ≡ number_in f xs i
  number_take xs a i lt = ap (λ zs. get_or zs i (pos 0)) (sym (take-map f a xs)) ∙ get_or-take a (map f xs) i (pos 0) lt

  number_drop : (xs : List S) (a i : ℕ) → number_in f (drop a xs) i ≡ number_in f xs (a + i)
  number_drop xs a i = ap (λ zs. get_or zs i (pos 0)) (sym (drop-map f a xs)) ∙ get_or-drop a (map f xs) i (pos 0)

  -- number i of a part of a list
  pub number_part : (xs : List S) (a n i : ℕ) → i < n → number_in f (slice_range xs a (a + n)) i ≡ number_in f xs (a + i)
  number_part xs a n i lt = number_take (drop a xs) (a + n - a) i (omega arith) ∙ number_drop xs a i

  -- ---- a list with others written over it

  module _ (xs vs rest : List S) (a c : ℕ) (long : length vs ≡ c) (fits : a + c ≤ length xs) where
    abbrev over : List S
    over = take a xs ++ (vs ++ rest)

    front : length (take a xs) ≡ a
    front = length-take-le a xs (omega (arith, fits))

    over_before : (i : ℕ) → i < a → number_in f over i ≡ number_in f xs i
    over_before i lt = number_left f (take a xs) (vs ++ rest) i (omega (arith, lt, front)) ∙ number_take xs a i lt

    over_inside : (i : ℕ) → i < c → number_in f over (a + i) ≡ number_in f vs i
    over_inside i lt =
        let is : a + i - a ≡ i = omega arith in
        number_right f (take a xs) (vs ++ rest) a (a + i) front (omega arith) ∙ ap (number_in f (vs ++ rest)) is
        ∙ number_left f vs rest i (omega (arith, lt, long))

  -- one line more
  pub lines_next : (xs vs rest : List S) (c k : ℕ) (value : ℕ → ℕ → ℤ) → length vs ≡ c → k * c + c ≤ length xs →
      AreLines f c xs value k → ((x : ℕ) → x < c → number_in f vs x ≡ value x k) → AreLines f c (take (k * c) xs ++ (vs ++ rest)) value (k + 1)
  lines_next xs vs rest c k value long fits so_far line x y p q =
      below_next (λ j. number_in f (over xs vs rest (k * c) c long fits) (j * c + x) ≡ value x j) k
      (λ j l. over_before xs vs rest (k * c) c long fits (j * c + x) (below_line x j c k p l) ∙ so_far x j p l)
      (over_inside xs vs rest (k * c) c long fits x p ∙ line x p) y q

  pub no_lines : (xs : List S) (c : ℕ) (value : ℕ → ℕ → ℤ) → AreLines f c xs value 0
  no_lines xs c value x y p q = absurd (omega (arith, q))

  -- some lines, and then others
  pub lines_joined : (xs ys : List S) (c n m : ℕ) (value before after : ℕ → ℕ → ℤ) → length xs ≡ n * c →
      ((x y : ℕ) → x < c → y < n → value x y ≡ before x y) → ((x y : ℕ) → x < c → n ≤ y → y < n + m → value x y ≡ after x (y - n)) →
      AreLines f c xs before n → AreLines f c ys after m → AreLines f c (xs ++ ys) value (n + m)
  lines_joined xs ys c n m value before after long is_before is_after first second x y p q =
      elim (cases_lt y n) [
        | inl l ↦
            let inside = below_line x y c n p l in
            number_left f xs ys (y * c + x) (omega (arith, inside, long)) ∙ first x y p l ∙ sym (is_before x y p l)
        | inr g ↦
            let k : ℕ = y - n in
            let split : y * c + x ≡ n * c + (k * c + x) = rows_split y n k c x (omega (arith, g)) in
            let back : n * c + (k * c + x) - n * c ≡ k * c + x = omega arith in
            ap (number_in f (xs ++ ys)) split ∙ number_right f xs ys (n * c) (n * c + (k * c + x)) long (omega arith) ∙ ap (number_in f ys) back
            ∙ second x k p (omega (arith, g, q)) ∙ sym (is_after x y p g q)
      ]
    where
      rows_split : (y n k c x : ℕ) → y ≡ n + k → y * c + x ≡ n * c + (k * c + x)
      rows_split y n k c x e = ap (λ z. z * c + x) e ∙ omega arith
