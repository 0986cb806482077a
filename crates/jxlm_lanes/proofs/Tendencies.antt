-- The tendency of three numbers, from what is kept of a slope where they fall and where they rise.
use Rattle.std.proofs.Common.{◌≡◌, ℕ, zero, suc, ◌+◌, ◌-◌, ◌%◌, ◌<◌, Bool, true, false, T, not, ◌&&◌, cond, ℤ, pos, ◌-ℤ◌, neg_ℤ, int_le, unsigned_abs, FitsSigned, to_z, of_z, w16, sym, refl, ap, ◌∙◌, subst, arith}
use Rattle.std.proofs.lemmas.Int.{ints, to_z_pos}
use Rattle.std.proofs.Math.Facts.{to_z-neg}
use Rattle.jxlm_lanes.specs.Squeeze.{slope, tendency}
use Rattle.jxlm_lanes.proofs.Tendency.{slope_small}

both : (x y : Bool) (s : ℤ) → cond x (cond y s (pos 0)) (pos 0) ≡ cond (x && y) s (pos 0)
both true y s = refl
both false y s = refl

pub and_true : (x y : Bool) → (x && y) ≡ true → (x ≡ true) × (y ≡ true)
and_true true y e = (refl, e)
and_true false y e = absurd (subst (λ t. T (not t)) e tt)

-- what is left of a slope where the three fall, less what is left of it where they rise, as bits
abbrev pub fall_less_rise : Bool → Bool → ℤ → ℤ
fall_less_rise t u s = to_z w16 ((of_z w16 (cond t s (pos 0)) + (65536 - of_z w16 (cond u s (pos 0)))) % 65536)

negated : (n : ℕ) → n < 32768 → to_z w16 ((0 + (65536 - n)) % 65536) ≡ neg_ℤ (pos n)
negated zero lt = refl
negated (suc k) lt =
    let is : (0 + (65536 - suc k)) % 65536 ≡ 65536 - suc k = omega arith in ap (to_z w16) is ∙ to_z-neg w16 k (omega (arith, lt))

signed_by : (t u : Bool) (n : ℕ) (s : ℤ) → (t ≡ true → (s ≡ pos n) × (n < 32768)) → (u ≡ true → (s ≡ pos n) × (n < 32768)) → (t ≡ true → u ≡ true → n ≡ 0) →
    fall_less_rise t u s ≡ cond t (pos n) (cond u (neg_ℤ (pos n)) (pos 0))
signed_by true true n s f r z =
    let is = (f refl).0 in
    let none = z refl refl in ap (fall_less_rise true true) (is ∙ ap pos none) ∙ ap pos (sym none)
signed_by true false n s f r z =
    let lt = (f refl).1 in ap (fall_less_rise true false) (f refl).0 ∙ omega (arith, ints, lt)
signed_by false true n s f r z =
    let lt = (r refl).1 in ap (fall_less_rise false true) (r refl).0 ∙ negated n lt
signed_by false false n s f r z = refl

module _ (a b c : ℤ) (fa : FitsSigned w16 a) (fb : FitsSigned w16 b) (fc : FitsSigned w16 c) where
  abbrev p : ℕ
  p = unsigned_abs (a -ℤ b)

  abbrev q : ℕ
  q = unsigned_abs (b -ℤ c)

  falls : int_le b a ≡ true → int_le c b ≡ true → p + q < 65536
  falls e f = grind (arith, ints)

  rises : int_le a b ≡ true → int_le b c ≡ true → p + q < 65536
  rises e f = grind (arith, ints)

  flat_p : int_le b a ≡ true → int_le a b ≡ true → p ≡ 0
  flat_p e f = grind (arith, ints)

  flat_q : int_le c b ≡ true → int_le b c ≡ true → q ≡ 0
  flat_q e f = grind (arith, ints)

  pub tendency_of : (n : ℕ) → (p + q < 65536 → n ≡ slope p q) →
      fall_less_rise (int_le b a && int_le c b) (int_le a b && int_le b c) (to_z w16 n) ≡ tendency a b c
  tendency_of n is =
      let small : p + q < 65536 → slope p q < 32768 = λ h. (let s = slope_small p q in omega arith) in
      let number : p + q < 65536 → (to_z w16 n ≡ pos (slope p q)) × (slope p q < 32768) = λ h.
      (ap (to_z w16) (is h) ∙ to_z_pos w16 (slope p q) (small h), small h) in
      signed_by (int_le b a && int_le c b) (int_le a b && int_le b c) (slope p q) (to_z w16 n)
      (λ t. let d = and_true (int_le b a) (int_le c b) t in number (falls d.0 d.1))
      (λ u. let d = and_true (int_le a b) (int_le b c) u in number (rises d.0 d.1))
      (λ t u.
      let d = and_true (int_le b a) (int_le c b) t in
      let e = and_true (int_le a b) (int_le b c) u in ap (λ p. slope p q) (flat_p d.0 e.0) ∙ ap (slope 0) (flat_q d.1 e.1))

  pub tendency_by : (n : ℕ) (s : ℤ) → (p + q < 65536 → n ≡ slope p q) → s ≡ to_z w16 n →
      to_z w16 ((of_z w16 (cond (int_le b a) (cond (int_le c b) s (pos 0)) (pos 0)) + (65536 - of_z w16 (cond (int_le a b) (cond (int_le b c) s (pos 0)) (pos 0)))) % 65536) ≡ tendency a b c
  tendency_by n s is as_bits =
      ap (λ z. to_z w16 ((of_z w16 z + (65536 - of_z w16 (cond (int_le a b) (cond (int_le b c) s (pos 0)) (pos 0)))) % 65536)) (both (int_le b a) (int_le c b) s)
      ∙ ap (λ z. to_z w16 ((of_z w16 (cond (int_le b a && int_le c b) s (pos 0)) + (65536 - of_z w16 z)) % 65536)) (both (int_le a b) (int_le b c) s)
      ∙ ap (fall_less_rise (int_le b a && int_le c b) (int_le a b && int_le b c)) as_bits
      ∙ tendency_of n is
