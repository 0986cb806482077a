-- Bytes that follow one another, one more at a time.
use Rattle.std.proofs.Common.{◌≡◌, ℕ, zero, suc, ◌+◌, List, [], ◌∷◌, ◌++◌, length, refl, add-one, arith}
use Rattle.std.proofs.lemmas.List.{length-append}
use Rattle.jxl_icc.specs.Growth.{extend}

-- none
pub grown_none : (f : List ℕ → ℕ → ℕ) (b : List ℕ) → extend f b 0 ≡ b
unfolding extend
grown_none f b = refl

-- one more
pub grown_next : (f : List ℕ → ℕ → ℕ) (b : List ℕ) (n : ℕ) → extend f b (n + 1) ≡ extend f b n ++ f (extend f b n) n ∷ []
unfolding extend
grown_next f b n = rw (add-one n) refl

-- one more, as a loop adds it
pub grown_pushed : (f : List ℕ → ℕ → ℕ) (b o p : List ℕ) (n v : ℕ) → o ≡ extend f b n → v ≡ f o n → p ≡ o ++ v ∷ [] → p ≡ extend f b (n + 1)
grown_pushed f b o p n v eo ev ep = let e = grown_next f b n in rw (ep, ev, eo) (rw e refl)

-- how many bytes there are
pub grown_length : (f : List ℕ → ℕ → ℕ) (b : List ℕ) (n : ℕ) → length (extend f b n) ≡ length b + n
unfolding extend
grown_length f b zero = omega arith
grown_length f b (suc n) = omega (arith, length-append (extend f b n) (f (extend f b n) n ∷ []), grown_length f b n)
