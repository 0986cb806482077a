-- The clamped gradient where the sample above left lies between the other two.
use Rattle.std.proofs.Common.{◌≡◌, ℤ, ◌+ℤ◌, ◌-ℤ◌, ◌≤ℤ◌, arith}
use Rattle.std.specs.Int.{int_max, int_min}
use Rattle.std.proofs.lemmas.Int.{clamps, ints}

module _ (n w nw low high : ℤ) (least : low ≡ int_min n w) (most : high ≡ int_max n w) (a : low ≤ℤ nw) (b : nw ≤ℤ high) where
  pub not_below : low ≤ℤ (n -ℤ nw +ℤ w)
  not_below = omega (arith, ints, clamps)

  pub not_above : (n -ℤ nw +ℤ w) ≤ℤ high
  not_above = omega (arith, ints, clamps)

  pub not_clamped : n -ℤ nw +ℤ w ≡ int_max (int_min n w) (int_min (n +ℤ w -ℤ nw) (int_max n w))
  not_clamped = omega (arith, ints, clamps)

-- the same, found by clamping the sample to the left between the other two
module _ (n w nw low high c : ℤ) (least : low ≡ int_min n nw) (most : high ≡ int_max n nw) (is : c ≡ int_max low (int_min w high)) where
  pub left_clamped : n +ℤ w -ℤ c ≡ int_max (int_min n w) (int_min (n +ℤ w -ℤ nw) (int_max n w))
  left_clamped = omega (arith, ints, clamps, least, most, is)

  pub left_not_below : int_min n w ≤ℤ (n +ℤ w -ℤ c)
  left_not_below = omega (arith, ints, clamps, least, most, is)

  pub left_not_above : (n +ℤ w -ℤ c) ≤ℤ int_max n w
  left_not_above = omega (arith, ints, clamps, least, most, is)
