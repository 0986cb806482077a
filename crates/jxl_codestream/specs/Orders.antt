-- The order of sections in the file: a permutation by its Lehmer code (ISO/IEC 18181-1, permutations).
use Rattle.std.specs.Prelude.{◌≡◌, ℕ, ◌+◌, ◌-◌, ◌<◌, List, [], ◌∷◌, ◌++◌, length, take, count_by, nat_lt, nat_le, ◌==◌, not, slice_get, slice_index, slice_index_or, codes, Some}
use Rattle.std.specs.List.{filter, list_any, range_with_len}
use Rattle.jxlm_bits.specs.Decoding.{Meaning}
use Rattle.jxlm_bits.specs.ErrorKind.{BadEnum}
use Rattle.jxlm_bits.specs.Grammar.{Grammar, give, fail, either}
use Rattle.jxl_image_header.specs.Fields.{number_meant}
use Rattle.jxlm_bits.specs.Tokens.{Tokens, token, coded_tokens}
use Rattle.jxlm_bits.specs.Turns.{◌>>=◌, chain}

-- the numbers below n that were not taken, in their order
abbrev pub left_of : ℕ → List ℕ → List ℕ
left_of n taken = filter (λ v. not (list_any (λ w. w == v) taken)) (range_with_len 0 n)

-- The order of n numbers that a Lehmer code tells: each stands, among those that are left, at the place of its digit; a digit
-- that is not told is 0.
pub record IsOrder (code : List ℕ) (n : ℕ) (order : List ℕ) : Type 0 where
  pub length : length order ≡ n
  pub each : (i : ℕ) → i < n → slice_get (left_of n (take i order)) (slice_index_or code i 0) ≡ Some (slice_index order i)

-- Each number below n stands at one place, and at no other.
pub record IsBijection (n : ℕ) (order : List ℕ) : Type 0 where
  pub somewhere : (v : ℕ) → v < n → (i : ℕ) × (i < n) × (slice_index order i ≡ v)
  pub once : (i j : ℕ) → i < n → j < n → slice_index order i ≡ slice_index order j → i ≡ j

-- the context of a digit after a value: how many bits it has, at most 7
abbrev pub context_of : ℕ → ℕ
context_of v = count_by (λ n. nat_le n v) (1 ∷ 2 ∷ 4 ∷ 8 ∷ 16 ∷ 32 ∷ 64 ∷ [])

-- one digit more of a code of n numbers: it leads to one that is left; its context is of the digit before it, or of 0
abbrev pub one_more : {S : Type 0} → Meaning S → ℕ → List ℕ → Tokens S (List ℕ)
one_more d n code = token d (context_of (slice_index_or code (length code - 1) 0)) (λ v.
    either (nat_lt (v + length code) n) (give (code ++ v ∷ [])) (fail (BadEnum (codes "permutation") v)))

-- the Lehmer code of an order of n numbers: how many digits are coded, at most n, and these
abbrev pub lehmer_code : {S : Type 0} → Meaning S → ℕ → Grammar (List ℕ)
lehmer_code d n = coded_tokens d 8
    (token d (context_of n) (λ v. number_meant (codes "permutation") (nat_le v n) v) >>= λ told. chain (one_more d n) told [])
