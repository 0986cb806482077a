-- Multipliers of leaves: a factor below 2 ^ (31 - log), shifted by log.
use Rattle.std.proofs.Common.{◌≡◌, ℕ, ◌+◌, ◌-◌, ◌*◌, ◌%◌, ◌^◌, ◌<◌, ◌≤◌, subst, arith, pow_mono, pow_pos, shl_lt}
use Rattle.std.proofs.Math.Nat.{mod-eq_of_lt}

module _ (log : ℕ) (small : log ≤ 30) where
  -- the minimum such power
  pub least_power : 2 ≤ 2 ^ (31 - log)
  least_power = pow_mono {i = 1} {j = 31 - log} (omega (arith, small))

  max_power : 2 ^ (31 - log) ≤ 2147483648
  max_power = pow_mono {i = 31 - log} {j = 31} (omega (arith, small))

  -- it is not shifted out of a 32-bit number
  pub power_is : 1 * 2 ^ (31 - log) % 4294967296 ≡ 2 ^ (31 - log)
  power_is =
      let e : 1 * 2 ^ (31 - log) ≡ 2 ^ (31 - log) = omega arith in
      rw e (mod-eq_of_lt (omega (arith, max_power)))

  module _ (factor : ℕ) (within : factor ≤ 2 ^ (31 - log) - 2) where
    pub multiplier_below : (factor + 1) * 2 ^ log < 2147483648
    multiplier_below =
        let below : factor + 1 < 2 ^ (31 - log) = omega (arith, within, least_power) in
        let together : (31 - log) + log ≡ 31 = omega (arith, small) in
        subst (λ n. (factor + 1) * 2 ^ log < 2 ^ n) together (shl_lt (31 - log) log below)

    pub multiplier_is : (factor + 1) * 2 ^ log % 4294967296 ≡ (factor + 1) * 2 ^ log
    multiplier_is = mod-eq_of_lt (omega (arith, multiplier_below))

    pub multiplier_from : 1 ≤ (factor + 1) * 2 ^ log
    multiplier_from =
        let power = pow_pos log in
        let e : (factor + 1) * 2 ^ log ≡ factor * 2 ^ log + 2 ^ log = omega arith in
        rw e (omega (arith, power))
