-- One more step of the definitions that go by number.
use Rattle.std.proofs.Common.{◌≡◌, ◌≢◌, ℕ, suc, ◌+◌, ◌++◌, List, [], ◌∷◌, length, refl, subst, ◌∙◌, arith, cond, true, false, slice_index, slice_set, ◌==◌}
use Rattle.std.proofs.lemmas.Bool.Decides.{nat_tests}
use Rattle.std.proofs.lemmas.List.{append-nil}
use Rattle.jxl_coding_codes.specs.Distributions.{even_at, even_first}
use Rattle.jxl_coding_codes.specs.PrefixCodes.{Prefix, of_length, all_of_length, of_lengths, set_first}

next : (n : ℕ) → suc n ≡ n + 1
next n = omega arith

pub set_more : (n : ℕ) (lengths symbols each : List ℕ) → set_first (n + 1) lengths symbols each ≡ slice_set (set_first n lengths symbols each) (slice_index symbols n) (slice_index each n)
unfolding set_first
set_more n lengths symbols each =
    subst (λ (m : ℕ). set_first m lengths symbols each ≡ slice_set (set_first n lengths symbols each) (slice_index symbols n) (slice_index each n)) (next n) refl

of_length_more : (l n : ℕ) (lengths : List ℕ) → of_length l lengths (n + 1) ≡ of_length l lengths n ++ cond (slice_index lengths n == l) (n ∷ []) []
unfolding of_length
of_length_more l n lengths =
    subst (λ (m : ℕ). of_length l lengths m ≡ of_length l lengths n ++ cond (slice_index lengths n == l) (n ∷ []) []) (next n) refl

pub of_length_same : (l n : ℕ) (lengths : List ℕ) → slice_index lengths n ≡ l → of_length l lengths (n + 1) ≡ of_length l lengths n ++ n ∷ []
of_length_same l n lengths h =
    let t : (slice_index lengths n == l) ≡ true = grind (arith, nat_tests) in
    of_length_more l n lengths ∙ rw t refl

pub of_length_other : (l n : ℕ) (lengths : List ℕ) → slice_index lengths n ≢ l → of_length l lengths (n + 1) ≡ of_length l lengths n
of_length_other l n lengths h =
    let t : (slice_index lengths n == l) ≡ false = grind (arith, nat_tests) in
    of_length_more l n lengths ∙ rw t (append-nil (of_length l lengths n))

abbrev with_next : List ℕ → ℕ → Prefix
with_next lengths n = record {
  counts = slice_set (of_lengths lengths n).counts n (length (all_of_length (n + 1) lengths));
  symbols = (of_lengths lengths n).symbols ++ all_of_length (n + 1) lengths;
}

pub of_lengths_more : (lengths : List ℕ) (n : ℕ) → of_lengths lengths (n + 1) ≡ record {
  counts = slice_set (of_lengths lengths n).counts n (length (all_of_length (n + 1) lengths));
  symbols = (of_lengths lengths n).symbols ++ all_of_length (n + 1) lengths;
}
unfolding of_lengths
of_lengths_more lengths n = subst (λ (m : ℕ). of_lengths lengths m ≡ with_next lengths n) (next n) refl

pub even_more : (n all : ℕ) → even_first (n + 1) all ≡ even_first n all ++ even_at n all ∷ []
unfolding even_first
even_more n all = subst (λ (m : ℕ). even_first m all ≡ even_first n all ++ even_at n all ∷ []) (next n) refl
