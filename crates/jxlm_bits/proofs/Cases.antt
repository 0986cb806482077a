-- Numbers compared.
use Rattle.std.proofs.Common.{◌≡◌, ℕ, suc, ◌<◌, ◌≤◌, ◌⊎◌, inl, inr, arith}
use Rattle.std.proofs.lemmas.Bool.{cases_lt}

compare : (i j : ℕ) → (i < j) ⊎ (j ≤ i) → (j < i) ⊎ (i ≤ j) → (i < j) ⊎ ((i ≡ j) ⊎ (j < i))
compare i j (inl lt) other = inl lt
compare i j (inr le) (inl lt) = inr (inr lt)
compare i j (inr le) (inr ge) = inr (inl (omega arith))

pub trichotomy : (i j : ℕ) → (i < j) ⊎ ((i ≡ j) ⊎ (j < i))
trichotomy i j = compare i j (cases_lt i j) (cases_lt j i)

below_or : (i j : ℕ) → i < suc j → (i < j) ⊎ (j ≤ i) → (i < j) ⊎ (i ≡ j)
below_or i j h (inl lt) = inl lt
below_or i j h (inr le) = inr (omega arith)

pub less_or_same : (i j : ℕ) → i < suc j → (i < j) ⊎ (i ≡ j)
less_or_same i j h = below_or i j h (cases_lt i j)
