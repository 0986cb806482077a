-- Pairs of numbers so near to 0 that no sum of theirs wraps.
use Rattle.std.proofs.Common.{◌≡◌, ◌∙◌, refl, ap, sym, subst, ℕ, ◌<◌, ◌≤◌, ◌+◌, ℤ, pos, negsuc, ◌+ℤ◌, ◌-ℤ◌, neg_ℤ, Bool, true, false, ◌&&◌, cond, List, map, unsigned_abs, int_le, int_div, length, get_or, FitsSigned, to_z, of_z, w16, w32, arith}
use Rattle.std.specs.Int.{Width, int_wrap}
use Rattle.std.proofs.lemmas.Int.{ints, int_wrap_fits, fits_signed_from_abs, to_z_pos}
use Rattle.jxlm_lanes.specs.Squeeze.{slope, tendency}
use Rattle.jxlm_lanes.specs.Inner.Lanes.{lane, spread, AreEight, AreWideEight}
use Rattle.jxlm_lanes.specs.Pairs.{first_of, second_of, pair_difference}
use Rattle.std.proofs.lemmas.List.{get_or-map}
use lib.Lanes.{Each1}
use lib.ListN.{replicate}
use Rattle.std.proofs.lemmas.Simd.{get_or-replicate}
use Rattle.jxlm_lanes.proofs.Each.{same_numbers, lane_back}
use Rattle.jxlm_lanes.proofs.Tendency.{slope_small, tendency_rises, tendency_falls, tendency_turns}
use Rattle.jxlm_lanes.proofs.Tendencies.{and_true}

abbrev pub back : List ℤ → List ℤ
back xs = map (to_z w16) (map (of_z w16) xs)

-- what holds of vectors of eight holds of them as bits and back; and the other way
pub three : (P : List ℤ → List ℤ → List ℤ → Type 0) (a b c : List ℤ) → AreEight a → AreEight b → AreEight c → P a b c → P (back a) (back b) (back c)
three P a b c ea eb ec h =
    subst (λ l. P l (back b) (back c)) (sym (same_numbers w16 a ea.fit))
    (subst (λ l. P a l (back c)) (sym (same_numbers w16 b eb.fit)) (subst (P a b) (sym (same_numbers w16 c ec.fit)) h))

pub three_as : (P : List ℤ → List ℤ → List ℤ → Type 0) (a b c : List ℤ) → AreEight a → AreEight b → AreEight c → P (back a) (back b) (back c) → P a b c
three_as P a b c ea eb ec h =
    subst (λ l. P l b c) (same_numbers w16 a ea.fit) (subst (λ l. P (back a) l c) (same_numbers w16 b eb.fit) (subst (P (back a) (back b)) (same_numbers w16 c ec.fit) h))

pub apart_back : (a b : List ℤ) (j : ℕ) → AreEight a → AreEight b → unsigned_abs (lane (back a) j -ℤ lane (back b) j) ≡ unsigned_abs (lane a j -ℤ lane b j)
apart_back a b j ea eb = ap (λ z. unsigned_abs (z -ℤ lane (back b) j)) (lane_back a j ea) ∙ ap (λ z. unsigned_abs (lane a j -ℤ z)) (lane_back b j eb)

pub again : (xs : List ℤ) → Each1 (FitsSigned w16) xs → Each1 (FitsSigned w16) (back xs)
again xs h = subst (Each1 (FitsSigned w16)) (sym (same_numbers w16 xs h)) h

pub lane_again : (xs : List ℤ) (j : ℕ) → Each1 (FitsSigned w16) xs → lane (back xs) j ≡ lane xs j
lane_again xs j h = ap (λ l. lane l j) (same_numbers w16 xs h)

-- a number below 2 ^ 15, as a signed one
pub signed_at : (s : List ℤ) (ns : List ℕ) (j n : ℕ) → s ≡ map (to_z w16) ns → Each1 (FitsSigned w16) s → length ns ≡ 8 → j < 8 → get_or ns j 0 ≡ n → n < 32768 → lane (back s) j ≡ pos n
signed_at s ns j n e fit len lt is small =
    lane_again s j fit ∙ ap (λ l. lane l j) e ∙ get_or-map (to_z w16) ns j 0 (pos 0) (omega arith) ∙ ap (to_z w16) is ∙ to_z_pos w16 n small

pub zero_at : (j : ℕ) → j < 8 → lane (replicate 8 (pos 0)) j ≡ pos 0
zero_at j lt = get_or-replicate 8 j (pos 0) (pos 0) lt

-- ---- the tendency, from how far apart the three are

pub within_both : (a b c : ℤ) → unsigned_abs (a -ℤ c) ≤ unsigned_abs (a -ℤ b) + unsigned_abs (b -ℤ c)
within_both a b c = omega (arith, ints)

slope_within : (p q : ℕ) → slope p q ≤ p + q
slope_within p q = let s = slope_small p q in omega (arith, s)

signed_within : (x y : Bool) (s k : ℕ) → s ≤ k → unsigned_abs (cond x (pos s) (cond y (neg_ℤ (pos s)) (pos 0))) ≤ k
signed_within true y s k h = h
signed_within false true s k h = omega (arith, ints, h)
signed_within false false s k h = omega arith

module _ (a b c : ℤ) where
  abbrev p : ℕ
  p = unsigned_abs (a -ℤ b)

  abbrev q : ℕ
  q = unsigned_abs (b -ℤ c)

  tendency_within : unsigned_abs (tendency a b c) ≤ p + q
  tendency_within = signed_within (int_le b a && int_le c b) (int_le a b && int_le b c) (slope p q) (p + q) (slope_within p q)

  abbrev pub straight : ℤ
  straight = cond (int_le (pos (p + q)) (pos (unsigned_abs (a -ℤ c)))) (pos (slope p q)) (pos 0)

  -- what is left of it where the three fall, less what is left where they rise
  abbrev fall_less_rise : ℤ → ℤ
  fall_less_rise s = cond (int_le (pos 0) (a -ℤ c)) s (pos 0) -ℤ cond (int_le (a -ℤ c) (pos 0)) s (pos 0)

  all_falls : int_le b a ≡ true → int_le c b ≡ true → (int_le (pos (p + q)) (pos (unsigned_abs (a -ℤ c))) ≡ true) × (int_le (pos 0) (a -ℤ c) ≡ true)
  all_falls e f = (grind (arith, ints), grind (arith, ints))

  flat : int_le b a ≡ true → int_le c b ≡ true → int_le (a -ℤ c) (pos 0) ≡ true → p + q ≡ 0
  flat e f g = grind (arith, ints)

  opposite : (n : ℕ) → pos 0 -ℤ pos n ≡ neg_ℤ (pos n)
  opposite n = omega (arith, ints)

  falls_by : (t : Bool) (n : ℕ) → (t ≡ true → n ≡ 0) → pos n -ℤ cond t (pos n) (pos 0) ≡ pos n
  falls_by true n h = let z = h refl in omega (arith, ints, z)
  falls_by false n h = omega (arith, ints)

  zero_less_zero : (t u : Bool) → cond t (pos 0) (pos 0) -ℤ cond u (pos 0) (pos 0) ≡ pos 0
  zero_less_zero true true = refl
  zero_less_zero true false = refl
  zero_less_zero false true = refl
  zero_less_zero false false = refl

  all_rises : (int_le b a && int_le c b) ≡ false → int_le a b ≡ true → int_le b c ≡ true →
      (int_le (pos (p + q)) (pos (unsigned_abs (a -ℤ c))) ≡ true) × (int_le (pos 0) (a -ℤ c) ≡ false) × (int_le (a -ℤ c) (pos 0) ≡ true)
  all_rises e f g = (grind (arith, ints), grind (arith, ints), grind (arith, ints))

  turns : (int_le b a && int_le c b) ≡ false → (int_le a b && int_le b c) ≡ false → int_le (pos (p + q)) (pos (unsigned_abs (a -ℤ c))) ≡ false
  turns e f = grind (arith, ints)

  signed_is : fall_less_rise straight ≡ tendency a b c
  signed_is = by (int_le b a && int_le c b) (int_le a b && int_le b c) refl refl
    where
      n : ℕ
      n = slope p q

      by : (x y : Bool) → (int_le b a && int_le c b) ≡ x → (int_le a b && int_le b c) ≡ y → fall_less_rise straight ≡ tendency a b c
      by true y e f =
          let d = and_true (int_le b a) (int_le c b) e in
          let g = all_falls d.0 d.1 in
          ap (λ t. fall_less_rise (cond t (pos n) (pos 0))) g.0
          ∙ ap (λ t. cond t (pos n) (pos 0) -ℤ cond (int_le (a -ℤ c) (pos 0)) (pos n) (pos 0)) g.1
          ∙ falls_by (int_le (a -ℤ c) (pos 0)) n (λ h. let z = flat d.0 d.1 h in let s = slope_within p q in omega (arith, z, s))
          ∙ tendency_falls a b c e
      by false true e f =
          let d = and_true (int_le a b) (int_le b c) f in
          let g = all_rises e d.0 d.1 in
          ap (λ t. fall_less_rise (cond t (pos n) (pos 0))) g.0
          ∙ ap (λ t. cond t (pos n) (pos 0) -ℤ cond (int_le (a -ℤ c) (pos 0)) (pos n) (pos 0)) g.1
          ∙ ap (λ t. pos 0 -ℤ cond t (pos n) (pos 0)) g.2
          ∙ opposite n ∙ tendency_rises a b c e f
      by false false e f =
          ap (λ t. fall_less_rise (cond t (pos n) (pos 0))) (turns e f)
          ∙ zero_less_zero (int_le (pos 0) (a -ℤ c)) (int_le (a -ℤ c) (pos 0)) ∙ tendency_turns a b c e f

  pub near_tendency : p + q ≤ 32000 → int_wrap w16 (fall_less_rise straight) ≡ tendency a b c
  near_tendency h =
      ap (int_wrap w16) signed_is ∙ int_wrap_fits w16 (tendency a b c) (fits_signed_from_abs w16 (tendency a b c) (let t = tendency_within in omega (arith, t, h)))

  pub whole_is : p + q ≤ 32000 → int_wrap w16 (a -ℤ c) ≡ a -ℤ c
  whole_is h = int_wrap_fits w16 (a -ℤ c) (omega (arith, ints, h))

-- ---- a pair, with no sum that wraps

half_within : (d : ℤ) → unsigned_abs (int_div d (pos 2)) ≤ unsigned_abs d
half_within (pos d) = omega (arith, ints)
half_within (negsuc d) = omega (arith, ints)

rest_within : (d : ℤ) → unsigned_abs (int_div d (pos 2) -ℤ d) ≤ unsigned_abs d
rest_within (pos d) = omega (arith, ints)
rest_within (negsuc d) = omega (arith, ints)

module _ (b m x r : ℤ) (near : spread b m x r ≤ 32000) where
  abbrev t : ℤ
  t = tendency b m x

  abbrev d : ℤ
  d = r +ℤ t

  difference_within : unsigned_abs d + unsigned_abs m ≤ 32000
  difference_within = let h = tendency_within b m x in omega (arith, ints, h, near)

  module _ (w : Width) (wide : (z : ℤ) → unsigned_abs z < 32768 → FitsSigned w z) where
    difference_is : pair_difference w b m x r ≡ d
    difference_is = int_wrap_fits w d (wide d (let h = difference_within in omega (arith, h)))

    first_is : first_of w b m x r ≡ m +ℤ int_div d (pos 2)
    first_is =
        ap (λ d. int_wrap w (m +ℤ int_div d (pos 2))) difference_is
        ∙ int_wrap_fits w (m +ℤ int_div d (pos 2)) (wide (m +ℤ int_div d (pos 2)) (let h = difference_within in let k = half_within d in omega (arith, ints, h, k)))

    second_is : second_of w b m x r ≡ m +ℤ int_div d (pos 2) -ℤ d
    second_is =
        ap (λ f. int_wrap w (f -ℤ pair_difference w b m x r)) first_is ∙ ap (λ e. int_wrap w (m +ℤ int_div d (pos 2) -ℤ e)) difference_is
        ∙ int_wrap_fits w (m +ℤ int_div d (pos 2) -ℤ d) (wide (m +ℤ int_div d (pos 2) -ℤ d) (let h = difference_within in let k = rest_within d in omega (arith, ints, h, k)))

  pub first_in_32 : first_of w16 b m x r ≡ first_of w32 b m x r
  first_in_32 = first_is w16 (λ z h. fits_signed_from_abs w16 z h) ∙ sym (first_is w32 (λ z h. fits_signed_from_abs w32 z (omega (arith, h))))

  pub second_in_32 : second_of w16 b m x r ≡ second_of w32 b m x r
  second_in_32 = second_is w16 (λ z h. fits_signed_from_abs w16 z h) ∙ sym (second_is w32 (λ z h. fits_signed_from_abs w32 z (omega (arith, h))))

-- ---- vectors of 32 bits and of 16

abbrev pub wide_back : List ℤ → List ℤ
wide_back xs = map (to_z w32) (map (of_z w32) xs)

pub wide_eight_back : (v : List ℤ) → AreWideEight v → AreWideEight (wide_back v)
wide_eight_back v e = subst AreWideEight (sym (same_numbers w32 v e.fit)) e

pub wide_lane_back : (v : List ℤ) (j : ℕ) → AreWideEight v → lane (wide_back v) j ≡ lane v j
wide_lane_back v j e = ap (λ l. lane l j) (same_numbers w32 v e.fit)

-- lane j of a vector of 32 bits, and of the same in 16
module _ (v n : List ℤ) (j : ℕ) (wide : AreWideEight v) (eight : AreEight n) where
  pub inside_at : (unsigned_abs (lane n j) < 32767 → lane (wide_back v) j ≡ lane n j) → unsigned_abs (lane (back n) j) < 32767 → lane v j ≡ lane (back n) j
  inside_at f h = sym (wide_lane_back v j wide) ∙ f (subst (λ z. unsigned_abs z < 32767) (lane_back n j eight) h) ∙ sym (lane_back n j eight)

  pub same_at : (FitsSigned w16 (lane (wide_back v) j) → lane n j ≡ lane (wide_back v) j) → unsigned_abs (lane v j) ≤ 32000 → lane (back n) j ≡ lane v j
  same_at f h =
      let is = wide_lane_back v j wide in
      lane_back n j eight ∙ f (subst (FitsSigned w16) (sym is) (fits_signed_from_abs w16 (lane v j) (omega (arith, h)))) ∙ is

module _ (b m x r : ℤ) (near : spread b m x r ≤ 32000) where
  pub before_within : unsigned_abs b ≤ 32000
  before_within = omega (arith, ints, near)

  pub average_within : unsigned_abs m ≤ 32000
  average_within = omega (arith, near)

  pub next_within : unsigned_abs x ≤ 32000
  next_within = omega (arith, ints, near)

  pub residual_within : unsigned_abs r ≤ 32000
  residual_within = omega (arith, near)

pub four_spread : (b m x r b2 m2 x2 r2 : ℤ) → spread b2 m2 x2 r2 ≤ 32000 → b ≡ b2 → m ≡ m2 → x ≡ x2 → r ≡ r2 → spread b m x r ≤ 32000
four_spread b m x r b2 m2 x2 r2 h eb em ex er =
    subst (λ z. spread z m x r ≤ 32000) (sym eb) (subst (λ z. spread b2 z x r ≤ 32000) (sym em) (subst (λ z. spread b2 m2 z r ≤ 32000) (sym ex) (subst (λ z. spread b2 m2 x2 z ≤ 32000) (sym er) h)))
