-- What the decoding of a part asks of lists and of tests.
use Rattle.std.proofs.Common.{◌≡◌, ◌↔◌, ℕ, ◌<◌, List, ◌++◌, length, take, drop, Bool, true, false, refl, sym, ap, ◌∙◌}
use Rattle.std.specs.Prelude.{nat_lt, IsTrue}
use Rattle.std.proofs.lemmas.Bool.{lt-ltb, ltb-true}
use Rattle.std.proofs.Math.Seq.{take-append_seam}

-- a list written over whole
pub refilled : {X : Type 0} (n : ℕ) (xs ys : List X) → n ≡ length ys → length xs ≡ length ys → take n (xs ++ drop (length xs) ys) ≡ xs
refilled n xs ys a b =
    ap (λ k. take k (xs ++ drop (length xs) ys)) (a ∙ sym b) ∙ take-append_seam xs (drop (length xs) ys)

-- the test of whether a part has samples
pub as_test : (b : Bool) (n : ℕ) → IsTrue b ↔ (0 < n) → b ≡ nat_lt 0 n
as_test true n h = sym (lt-ltb 0 n (h.0 refl))
as_test false n h = no (nat_lt 0 n) refl where
  no : (c : Bool) → nat_lt 0 n ≡ c → false ≡ c
  no true e = h.1 (ltb-true 0 n e)
  no false e = refl
