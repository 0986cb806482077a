-- Numbers with one bit set are the powers of two.
use Rattle.std.proofs.Common.{◌≡◌, ℕ, zero, suc, ◌/◌, ◌%◌, ◌^◌, ◌<◌, ◌≤◌, ◌⊎◌, inl, inr, ◌↔◌, ◌∙◌, IsTrue, ap, refl, arith, eq-eqb}
use Rattle.std.proofs.Math.Nat.{pow-suc}
use Rattle.std.proofs.lemmas.Bool.Decides.{nat_tests}
use Rattle.std.proofs.lemmas.Nat.{ones_le_self, zero_from_ones}
use Rattle.std.specs.Int.{IsPowerOfTwo, is_power_of_two}
use Rattle.std.specs.Int.Count.{ones_step}
use Rattle.std.specs.Int.RustNames.{count_ones}

-- a digit is 0 or 1
digit : (b : ℕ) → b < 2 → (b ≡ 0) ⊎ (b ≡ 1)
digit zero h = inl refl
digit (suc zero) h = inr refl
digit (suc (suc b)) h = absurd (omega arith)

one_bit : (d n : ℕ) → n ≤ d → count_ones n ≡ 1 → IsPowerOfTwo n
one_bit zero n h e = absurd (omega (arith, ones_le_self n))
one_bit (suc d) n h e =
    let step = ones_step n in
    elim (digit (n % 2) (omega arith)) [
      | inl even ↦
          let half = one_bit d (n / 2) (omega (arith, ones_le_self n)) (omega arith) in
          (suc half.0, omega (arith, pow-suc 2 half.0, half.1))
      | inr odd ↦
          let none = zero_from_ones (n / 2) (omega arith) in
          (0, omega arith)
    ]

ones-pow : (k : ℕ) → count_ones (2 ^ k) ≡ 1
ones-pow zero = omega (arith, ones_step 1, ones_le_self 0)
ones-pow (suc k) =
    let half : 2 ^ suc k / 2 ≡ 2 ^ k = omega (arith, pow-suc 2 k) in
    omega (arith, pow-suc 2 k, ones_step (2 ^ suc k), ap count_ones half, ones-pow k)

-- The test of one bit holds exactly for the powers of two.
pub IsTrue-is_power_of_two : (n : ℕ) → IsTrue (is_power_of_two n) ↔ IsPowerOfTwo n
IsTrue-is_power_of_two n =
    (λ t. one_bit n n (omega arith) (grind (arith, nat_tests)), λ p. eq-eqb (count_ones n) 1 (ap count_ones p.1 ∙ ones-pow p.0))
