-- Pairs of two lists of one length.
use Rattle.std.proofs.Common.{◌≡◌, ℕ, zero, suc, List, [], ◌∷◌, length, ap, arith}
use Rattle.std.specs.List.{zip}

-- there are as many
pub pairs_count : {A B : Type 0} (xs : List A) (ys : List B) (n : ℕ) → length xs ≡ n → length ys ≡ n → length (zip xs ys) ≡ n
pairs_count [] ys n hx hy = hx
pairs_count (x ∷ xs) [] n hx hy = absurd (omega (arith, hx, hy))
pairs_count (x ∷ xs) (y ∷ ys) zero hx hy = absurd (omega (arith, hx))
pairs_count (x ∷ xs) (y ∷ ys) (suc n) hx hy = ap suc (pairs_count xs ys n (omega (arith, hx)) (omega (arith, hy)))
