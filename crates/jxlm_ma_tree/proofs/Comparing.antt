-- Comparisons as equations.
use Rattle.std.proofs.Common.{◌≡◌, ℕ, ℤ, ◌<ℤ◌, ◌≤ℤ◌, true, false, eqb, arith, ◌⊎◌, inl, inr}
use Rattle.std.specs.Prelude.{int_lt}
use Rattle.std.proofs.lemmas.Int.{ints}
use Rattle.std.proofs.lemmas.Bool.Decides.{nat_tests, eqb_tells}

pub above : (v x : ℤ) → v <ℤ x → int_lt v x ≡ true
above v x h = grind (arith, ints)

pub not_above : (v x : ℤ) → x ≤ℤ v → int_lt v x ≡ false
not_above v x h = grind (arith, ints)

pub int_lt-tells : (v x : ℤ) → ((int_lt v x ≡ true) × (v <ℤ x)) ⊎ ((int_lt v x ≡ false) × (x ≤ℤ v))
int_lt-tells v x = grind (arith, ints)

pub eqb-same : (q : ℕ) → eqb q q ≡ true
eqb-same q = grind (arith, nat_tests)

pub eqb-not : (q p : ℕ) → (q ≡ p → ⊥) → eqb q p ≡ false
eqb-not q p h = grind (arith, nat_tests)

pub eqb_is : (q p : ℕ) → (q ≡ p) ⊎ (q ≡ p → ⊥)
eqb_is q p = elim (eqb_tells q p) [ inl h ↦ inl h.1 | inr h ↦ inr h.1 ]

pub less : (a b : ℤ) → int_lt a b ≡ true → a <ℤ b
less a b h = grind (arith, ints)

pub not_less : (a b : ℤ) → int_lt a b ≡ false → b ≤ℤ a
not_less a b h = grind (arith, ints)
