-- Tendencies and pairs in machine numbers.
use Rattle.std.proofs.Common.{◌≡◌, ℕ, ◌+◌, ◌-◌, ◌*◌, ◌/◌, ◌%◌, ◌<◌, ◌≤◌, Bool, true, false, ◌&&◌, cond, nat_lt, inl, inr, ℤ, pos, ◌+ℤ◌, ◌-ℤ◌, neg_ℤ, int_le, int_div, ◌<ℤ◌, unsigned_abs, FitsSigned, to_z, of_z, sym, refl, ap, ◌∙◌, subst, arith}
use Rattle.std.specs.Int.{Width, w16, w32, int_wrap, int_wrapping_add, cast_signed}
use Rattle.std.proofs.lemmas.Bool.{cases_lt}
use Rattle.std.proofs.lemmas.Int.{fits_signed_from_abs, ints, to_z-of_z, to_z_pos, wrapping_add_is, wrapping_sub-bits, quot_fits, SFits-int_wrap}
use Rattle.jxlm_lanes.specs.Squeeze.{slope, tendency}
use Rattle.jxlm_lanes.specs.Pairs.{pair_difference, first_of, second_of}
use Rattle.jxlm_lanes.proofs.SqueezeLaws.{if_lt, if_ge}

-- what a comparison says of numbers that fit
pub le_is : (w : Width) (a b : ℤ) (t : Bool) → FitsSigned w a → FitsSigned w b → int_le (to_z w (of_z w a)) (to_z w (of_z w b)) ≡ t → int_le a b ≡ t
le_is w a b t f g e = ap (λ x. int_le x b) (sym (to_z-of_z w a f)) ∙ ap (int_le (to_z w (of_z w a))) (sym (to_z-of_z w b g)) ∙ e

pub both_true : (s t : Bool) → s ≡ true → t ≡ true → (s && t) ≡ true
both_true s t e f = rw (e, f) refl

pub first_false : (s t : Bool) → s ≡ false → (s && t) ≡ false
first_false s t e = rw e refl

pub second_false : (s t : Bool) → t ≡ false → (s && t) ≡ false
second_false true t e = e
second_false false t e = refl

-- where the three rise but don't fall
pub tendency_rises : (a b c : ℤ) → (int_le b a && int_le c b) ≡ false → (int_le a b && int_le b c) ≡ true →
    neg_ℤ (pos (slope (unsigned_abs (a -ℤ b)) (unsigned_abs (b -ℤ c)))) ≡ tendency a b c
tendency_rises a b c s t = rw (s, t) refl

-- where they fall
pub tendency_falls : (a b c : ℤ) → (int_le b a && int_le c b) ≡ true → pos (slope (unsigned_abs (a -ℤ b)) (unsigned_abs (b -ℤ c))) ≡ tendency a b c
tendency_falls a b c s = rw s refl

-- where they do neither
pub tendency_turns : (a b c : ℤ) → (int_le b a && int_le c b) ≡ false → (int_le a b && int_le b c) ≡ false → pos 0 ≡ tendency a b c
tendency_turns a b c s t = rw (s, t) refl

capped_left : (x p : ℕ) → cond (nat_lt (2 * p) (x - x % 2)) (2 * p + 1) x ≤ x
capped_left x p =
    elim (cases_lt (2 * p) (x - x % 2)) [
      | inl lt ↦ subst (λ y. y ≤ x) (sym (if_lt (2 * p) (x - x % 2) (2 * p + 1) x lt)) (omega arith)
      | inr ge ↦ subst (λ y. y ≤ x) (sym (if_ge (2 * p) (x - x % 2) (2 * p + 1) x ge)) (omega arith)
    ]

capped_right : (x q : ℕ) → cond (nat_lt (2 * q) (x + x % 2)) (2 * q) x ≤ x
capped_right x q =
    elim (cases_lt (2 * q) (x + x % 2)) [
      | inl lt ↦ subst (λ y. y ≤ x) (sym (if_lt (2 * q) (x + x % 2) (2 * q) x lt)) (omega arith)
      | inr ge ↦ subst (λ y. y ≤ x) (sym (if_ge (2 * q) (x + x % 2) (2 * q) x ge)) (omega arith)
    ]

pub slope_small : (p q : ℕ) → slope p q ≤ (4 * p + 3 * q + 6) / 12
slope_small p q =
    let x : ℕ = (4 * p + 3 * q + 6) / 12 in
    let y : ℕ = cond (nat_lt (2 * p) (x - x % 2)) (2 * p + 1) x in
    let first : y ≤ x = capped_left x p in
    let second : slope p q ≤ y = capped_right y q in omega arith

-- where three rise or fall, what is between them adds up
rise_adds : (a b c : ℤ) → int_le a b ≡ true → int_le b c ≡ true → unsigned_abs (a -ℤ b) + unsigned_abs (b -ℤ c) ≡ unsigned_abs (a -ℤ c)
rise_adds a b c s t = grind (arith, ints)

fall_adds : (a b c : ℤ) → int_le b a ≡ true → int_le c b ≡ true → unsigned_abs (a -ℤ b) + unsigned_abs (b -ℤ c) ≡ unsigned_abs (a -ℤ c)
fall_adds a b c s t = grind (arith, ints)

-- numbers nearer to 0 than half the range fit; and so does what is between two of them in the whole range
pub record IsWidth (w : Width) (half : ℕ) : Type 0 where
  pub some : 1 ≤ half
  pub near : (z : ℤ) → unsigned_abs z < half → FitsSigned w z
  pub natural : (n : ℕ) → n < half → to_z w n ≡ pos n
  pub apart : (a c : ℤ) → FitsSigned w a → FitsSigned w c → unsigned_abs (a -ℤ c) < 2 * half

pub narrow : IsWidth w16 32768
narrow = record { some = omega arith; near = λ z h. fits_signed_from_abs w16 z h; natural = λ n h. to_z_pos w16 n h; apart = λ a c f g. omega (arith, ints) }

pub wide : IsWidth w32 2147483648
wide = record { some = omega arith; near = λ z h. fits_signed_from_abs w32 z h; natural = λ n h. to_z_pos w32 n h; apart = λ a c f g. omega (arith, ints) }

opposite : (n : ℕ) → pos 0 -ℤ pos n ≡ neg_ℤ (pos n)
opposite n = omega (arith, ints)

opposite_abs : (n : ℕ) → unsigned_abs (neg_ℤ (pos n)) ≡ n
opposite_abs n = omega (arith, ints)

-- the tendency of a, b and c, which are p and q apart, from a number n that is the slope where p and q fit together
module _ (w : Width) (half : ℕ) (range : IsWidth w half) (a b c : ℤ) (fa : FitsSigned w a) (fb : FitsSigned w b) (fc : FitsSigned w c) (p q n : ℕ)
    (first : p ≡ unsigned_abs (to_z w (of_z w a) -ℤ to_z w (of_z w b))) (second : q ≡ unsigned_abs (to_z w (of_z w b) -ℤ to_z w (of_z w c)))
    (sloped : p + q < 2 * half → n ≡ slope p q) where
  p_is : p ≡ unsigned_abs (a -ℤ b)
  p_is = first ∙ rw (to_z-of_z w a fa, to_z-of_z w b fb) refl

  q_is : q ≡ unsigned_abs (b -ℤ c)
  q_is = second ∙ rw (to_z-of_z w b fb, to_z-of_z w c fc) refl

  fits_together : unsigned_abs (a -ℤ b) + unsigned_abs (b -ℤ c) ≡ unsigned_abs (a -ℤ c) → p + q < 2 * half
  fits_together adds = let d = range.apart a c fa fc in let e = p_is in let f = q_is in omega (arith, d, e, f, adds)

  slope_is : p + q < 2 * half → n ≡ slope (unsigned_abs (a -ℤ b)) (unsigned_abs (b -ℤ c))
  slope_is h = sloped h ∙ ap (λ p. slope p q) p_is ∙ ap (slope (unsigned_abs (a -ℤ b))) q_is

  slope_near : p + q < 2 * half → n < half
  slope_near h = let e = sloped h in let s = slope_small p q in let some = range.some in omega (arith, e, s, some, h)

  module _ (s : int_le (to_z w (of_z w b)) (to_z w (of_z w a)) ≡ true) (t : int_le (to_z w (of_z w c)) (to_z w (of_z w b)) ≡ true) where
    fall_fits : p + q < 2 * half
    fall_fits = fits_together (fall_adds a b c (le_is w b a true fb fa s) (le_is w c b true fc fb t))

    pub falls_fit : FitsSigned w (pos n)
    falls_fit = range.near (pos n) (slope_near fall_fits)

    pub falls : to_z w n ≡ tendency a b c
    falls = range.natural n (slope_near fall_fits) ∙ ap pos (slope_is fall_fits) ∙ tendency_falls a b c (both_true _ _ (le_is w b a true fb fa s) (le_is w c b true fc fb t))

  module _ (s : int_le (to_z w (of_z w a)) (to_z w (of_z w b)) ≡ true) (t : int_le (to_z w (of_z w b)) (to_z w (of_z w c)) ≡ true) where
    rise_fits : p + q < 2 * half
    rise_fits = fits_together (rise_adds a b c (le_is w a b true fa fb s) (le_is w b c true fb fc t))

    pub rises_fit : FitsSigned w (pos n)
    rises_fit = range.near (pos n) (slope_near rise_fits)

    negated : pos 0 -ℤ to_z w n ≡ neg_ℤ (pos n)
    negated = ap (λ z. pos 0 -ℤ z) (range.natural n (slope_near rise_fits)) ∙ opposite n

    pub negated_fits : FitsSigned w (pos 0 -ℤ to_z w n)
    negated_fits = rw negated (range.near (neg_ℤ (pos n)) (rw (opposite_abs n) (slope_near rise_fits)))

    pub rises : (int_le b a && int_le c b) ≡ false → to_z w (of_z w (pos 0 -ℤ to_z w n)) ≡ tendency a b c
    rises not =
        to_z-of_z w (pos 0 -ℤ to_z w n) negated_fits ∙ negated ∙ ap (λ n. neg_ℤ (pos n)) (slope_is rise_fits)
        ∙ tendency_rises a b c not (both_true _ _ (le_is w a b true fa fb s) (le_is w b c true fb fc t))

-- ---- a pair, by wrapping sums

module _ (w : Width) (b m x r t : ℤ) (fm : FitsSigned w m) (fr : FitsSigned w r) (ft : FitsSigned w t) (is : t ≡ tendency b m x) where
  pub sum_is : int_wrapping_add w r t ≡ pair_difference w b m x r
  sum_is = wrapping_add_is w r t fr ft ∙ ap (λ t. int_wrap w (r +ℤ t)) is

  pub first_is : int_wrapping_add w m (int_div (int_wrapping_add w r t) (pos 2)) ≡ first_of w b m x r
  first_is =
      let two : pos 0 <ℤ pos 2 = omega arith in
      let d : ℤ = int_wrapping_add w r t in
      let fd : FitsSigned w d = subst (FitsSigned w) (sym sum_is) (SFits-int_wrap w (r +ℤ tendency b m x)) in
      wrapping_add_is w m (int_div d (pos 2)) fm (quot_fits w d (pos 2) fd two) ∙ ap (λ d. int_wrap w (m +ℤ int_div d (pos 2))) sum_is

pub second_is : (b m x r t : ℤ) → FitsSigned w16 m → FitsSigned w16 r → FitsSigned w16 t → t ≡ tendency b m x →
    let d : ℕ = (of_z w16 r + of_z w16 t) % 65536 in
    let a : ℕ = (of_z w16 m + of_z w16 (int_div (to_z w16 d) (pos 2))) % 65536 in
    to_z w16 ((a + (65536 - d)) % 65536) ≡ second_of w16 b m x r
second_is b m x r t fm fr ft is =
    let d : ℕ = (of_z w16 r + of_z w16 t) % 65536 in
    let a : ℕ = (of_z w16 m + of_z w16 (int_div (to_z w16 d) (pos 2))) % 65536 in
    wrapping_sub-bits w16 a d (omega arith) (omega arith)
    ∙ ap (λ a. int_wrap w16 (a -ℤ cast_signed w16 d)) (first_is w16 b m x r t fm fr ft is)
    ∙ ap (λ d. int_wrap w16 (first_of w16 b m x r -ℤ d)) (sum_is w16 b m x r t fm fr ft is)
