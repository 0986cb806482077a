-- Lists of parts, pass after pass.
use Rattle.std.proofs.Common.{◌≡◌, ℕ, zero, suc, ◌+◌, ◌<◌, ◌≤◌, ◌⊎◌, inl, inr, List, [], ◌∷◌, ◌++◌, sym, ap, ◌∙◌, subst, arith}
use Rattle.std.specs.List.{All, flat_map, range_with_len}
use Rattle.std.proofs.lemmas.Bool.{cases_lt}
use Rattle.std.proofs.lemmas.Grind.{flat_map-append}
use Rattle.std.proofs.lemmas.List.{append-nil}
use Rattle.std.proofs.lemmas.List.Elements.{All-append, All-nil}
use Rattle.jxlm_section_split.proofs.PartLists.{IsAmong, among_left, among_right}

module _ {X : Type 0} (f : ℕ → List X) where
  pub all_passes : (P : X → Type 0) (a n : ℕ) → ((k : ℕ) → a ≤ k → All P (f k)) → All P (flat_map f (range_with_len a n))
  all_passes P a zero h = All-nil P
  all_passes P a (suc n) h = All-append P (f a) (flat_map f (range_with_len (a + 1) n)) (h a (omega arith)) (all_passes P (a + 1) n (λ k le. h k (omega (arith, le))))

  among_passes : (x : X) (a n k : ℕ) → a ≤ k → k < a + n → IsAmong x (f k) → IsAmong x (flat_map f (range_with_len a n))
  among_passes x a zero k low high h = absurd (omega (arith, low, high))
  among_passes x a (suc n) k low high h = elim (first_or_later a k low) [
    | inl is ↦ among_left x (f a) (flat_map f (range_with_len (a + 1) n)) (subst (λ k. IsAmong x (f k)) (sym is) h)
    | inr later ↦ among_right x (f a) (flat_map f (range_with_len (a + 1) n)) (among_passes x (a + 1) n k later (omega (arith, high)) h)
  ] where
    first_or_later : (a k : ℕ) → a ≤ k → (a ≡ k) ⊎ (a + 1 ≤ k)
    first_or_later a k low = elim (cases_lt a k) [ inl lt ↦ inr (omega (arith, lt)) | inr ge ↦ inl (omega (arith, low, ge)) ]

  pub among_one : (x : X) (n k : ℕ) → k < n → IsAmong x (f k) → IsAmong x (flat_map f (range_with_len 0 n))
  among_one x n k lt h = among_passes x 0 n k (omega arith) (omega (arith, lt)) h

  range_more : (a n : ℕ) → range_with_len a (n + 1) ≡ range_with_len a n ++ (a + n) ∷ []
  range_more a zero = ap (λ k. k ∷ []) (omega arith)
  range_more a (suc n) =
      let same : a + 1 + n ≡ a + suc n = omega arith in
      let more : suc n + 1 ≡ suc (n + 1) = omega arith in
      ap (range_with_len a) more ∙ ap (λ ks. a ∷ ks) (range_more (a + 1) n ∙ ap (λ k. range_with_len (a + 1) n ++ k ∷ []) same)

  -- those of one more pass come after those of the passes before
  pub one_more : (n : ℕ) → flat_map f (range_with_len 0 (n + 1)) ≡ flat_map f (range_with_len 0 n) ++ f n
  one_more n =
      let same : 0 + n ≡ n = omega arith in
      ap (flat_map f) (range_more 0 n ∙ ap (λ k. range_with_len 0 n ++ k ∷ []) same) ∙ flat_map-append f (range_with_len 0 n) (n ∷ []) ∙ ap (λ l. flat_map f (range_with_len 0 n) ++ l) (append-nil (f n))
