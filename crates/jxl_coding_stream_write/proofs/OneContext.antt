-- One context alone has cluster 0.
use Rattle.std.proofs.Common.{◌≡◌, ℕ, zero, suc, ◌≤◌, List, [], ◌∷◌, length, Bool, true, false, cond, Result, Ok, Err, refl, ap, ◌∙◌, arith}
use Rattle.std.specs.Prelude.{max, ◌&&◌, ◌==◌}
use Rattle.std.specs.List.{All, list_any}
use Rattle.std.proofs.lemmas.Bool.{true≢false}
use Rattle.std.proofs.lemmas.Bool.Decides.{nat_tests}
use Rattle.jxlm_bits.specs.declared.decoder.DecoderError.{DecoderError}
use Rattle.jxl_coding.specs.Clusters.{count_of, greatest, are_used}

abbrev result : Bool → ℕ → DecoderError → Result ℕ DecoderError
result b x e = cond b (Ok x) (Err e)

refuses : (b : Bool) (x n : ℕ) (e : DecoderError) → b ≡ false → result b x e ≡ Ok n → ⊥
refuses true x n e f h = true≢false f
refuses false x n e f h = cc

none_of : (a b : Bool) → b ≡ false → (a && b) ≡ false
none_of true b e = e
none_of false b e = refl

above : (c : ℕ) → max 0 c ≡ c
above c = grind (arith, nat_tests)

greatest_one : (c : ℕ) → greatest 1 (c ∷ []) ≡ c
unfolding greatest
greatest_one c = above c

differs : (c : ℕ) → (suc c == c) ≡ false
differs c = grind (arith, nat_tests)

other : (c : ℕ) → list_any (λ x. x == c) (suc c ∷ []) ≡ false
other c = rw (differs c) refl

not_used : (c : ℕ) → are_used (suc c) (suc c ∷ []) ≡ false
unfolding are_used
not_used c = none_of (are_used c (suc c ∷ [])) (list_any (λ x. x == c) (suc c ∷ [])) (other c)

first : (c n : ℕ) → count_of (c ∷ []) ≡ Ok n → c ≡ 0
first zero n e = refl
first (suc c) n e =
    let u : are_used (greatest 1 (suc c ∷ [])) (suc c ∷ []) ≡ false = ap (λ (k : ℕ). are_used k (suc c ∷ [])) (greatest_one (suc c)) ∙ not_used c in
    absurd (refuses _ _ n _ u e)

-- one context alone has cluster 0, if each cluster has a context
pub only_zero : (clusters : List ℕ) (n : ℕ) → count_of clusters ≡ Ok n → length clusters ≤ 1 → All (λ c. c ≡ 0) clusters
only_zero [] n e few k d lt = absurd (omega (arith, lt))
only_zero (c ∷ []) n e few zero d lt = first c n e
only_zero (c ∷ []) n e few (suc k) d lt = absurd (omega (arith, lt))
only_zero (c ∷ x ∷ xs) n e few k d lt = absurd (omega (arith, few))
