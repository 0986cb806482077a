-- Sums of 64-bit numbers that are near 0.
use Rattle.std.proofs.Common.{◌≡◌, ℕ, ℤ, pos, ◌+◌, ◌*◌, ◌<◌, ◌≤◌, ◌^◌, ◌+ℤ◌, ◌*ℤ◌, unsigned_abs, FitsSigned, ◌∙◌, arith, ap, to_z, of_z}
use Rattle.std.specs.Int.{w32, w64}
use Rattle.std.proofs.lemmas.Int.{to_z-of_z, to_z_pos, fits_signed_from_abs}
use Rattle.jxlm_weighted.proofs.Ranges.{abs_add, abs_fits}

-- x is a, which is at most m away from 0
pub record IsNear (x a : ℤ) (m : ℕ) : Type 0 where
  pub is : x ≡ a
  pub near : unsigned_abs a ≤ m

kept : (v : ℤ) (m : ℕ) → unsigned_abs v ≤ m → m < 2 ^ 63 → IsNear (to_z w64 (of_z w64 v)) v m
kept v m near small = record { is = to_z-of_z w64 v (fits_signed_from_abs w64 v (omega arith)); near = near }

-- a natural number as a 64-bit one
pub natural_near : (n m : ℕ) → n ≤ m → m < 2 ^ 63 → IsNear (to_z w64 n) (pos n) m
natural_near n m near small = record { is = to_z_pos w64 n (omega arith); near = near }

-- the sum of two such numbers
module _ (x y a b : ℤ) (m n : ℕ) (p : IsNear x a m) (q : IsNear y b n) (small : m + n < 2 ^ 63) where
  sum_near_0 : unsigned_abs (a +ℤ b) ≤ m + n
  sum_near_0 = let s = abs_add a b in let f = p.near in let g = q.near in omega (arith, s, f, g)

  pub sum_fits : FitsSigned w64 (x +ℤ y)
  sum_fits = rw (p.is, q.is) (fits_signed_from_abs w64 (a +ℤ b) (let s = sum_near_0 in omega (arith, s, small)))

  pub sum_near : IsNear (to_z w64 (of_z w64 (x +ℤ y))) (a +ℤ b) (m + n)
  sum_near = rw (p.is, q.is) (kept (a +ℤ b) (m + n) sum_near_0 small)

-- a number near 0, times a factor below 32
module _ (v r : ℤ) (m : ℕ) (near : unsigned_abs v ≤ m) (small : 31 * m < 2 ^ 63) where
  itself : to_z w64 (of_z w64 v) ≡ v
  itself = (kept v m near (omega (arith, small))).is

  pub scaled_near : unsigned_abs r ≤ 31 * unsigned_abs (to_z w64 (of_z w64 v)) → IsNear (to_z w64 (of_z w64 r)) r (31 * m)
  scaled_near bound = let b = rw itself at bound in kept r (31 * m) (omega (arith, b, near)) small

  pub scaled_is : (factor : ℕ) → r ≡ to_z w64 (of_z w64 v) *ℤ pos factor → r ≡ v *ℤ pos factor
  scaled_is factor value = value ∙ ap (λ z. z *ℤ pos factor) itself

-- a 32-bit number times a factor below 32
module _ (v r : ℤ) (fits : FitsSigned w32 v) where
  widened : to_z w32 (of_z w32 v) ≡ v
  widened = to_z-of_z w32 v fits

  pub widened_near : unsigned_abs r ≤ 31 * unsigned_abs (to_z w64 (of_z w64 (to_z w32 (of_z w32 v)))) → IsNear (to_z w64 (of_z w64 r)) r (31 * 2 ^ 31)
  widened_near bound = scaled_near v r (2 ^ 31) (abs_fits v fits) (omega arith) (rw widened at bound)

  pub widened_is : (factor : ℕ) → r ≡ to_z w64 (of_z w64 (to_z w32 (of_z w32 v))) *ℤ pos factor → r ≡ v *ℤ pos factor
  widened_is factor value = scaled_is v r (2 ^ 31) (abs_fits v fits) (omega arith) factor (rw widened at value)
