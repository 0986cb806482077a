-- Tokens of runs, written as often as they come.
use Rattle.std.proofs.Common.{◌≡◌, ℕ, zero, suc, ◌+◌, ◌-◌, ◌<◌, ◌≤◌, inl, inr, ◌∙◌, List, length, slice_index, slice_set, Ok, refl, subst, arith}
use Rattle.std.proofs.lemmas.Bool.{cases_lt}
use Rattle.std.proofs.lemmas.List.{get_or-set_other, get_or-set_same}
use Rattle.jxlm_bits.specs.Decoding.{TakesTokens}
use Rattle.jxlm_plain.specs.Plain.{PlainState, code_of, plain_read, token_at}
use Rattle.jxlm_plain.specs.declared.plain.Code.{Code}
use Rattle.jxlm_plain.specs.declared.plain.Code.TheVariants.{Fixed}
use Rattle.jxlm_plain.specs.declared.plain.Mode.TheVariants.{Runs}
use Rattle.jxlm_plain.proofs.PlainGives.{state}

-- one more place is filled
pub filled_more : (xs : List ℕ) (from k v : ℕ) → k < length xs → ((j : ℕ) → from ≤ j → j < k → slice_index xs j ≡ v) →
    (j : ℕ) → from ≤ j → j < k + 1 → slice_index (slice_set xs k v) j ≡ v
filled_more xs from k v inside filled j least below =
    elim (cases_lt j k) [
      | inl before ↦ get_or-set_other xs k j v 0 (λ same. absurd (omega arith)) ∙ filled j least before
      | inr after ↦
          let here : k ≡ j = omega arith in
          subst (λ n. slice_index (slice_set xs k v) n ≡ v) here (get_or-set_same xs k v 0 inside)
    ]

module _ (bytes : List ℕ) (codes : List Code) (clusters : List ℕ) (width c m : ℕ) (is : Fixed width ≡ code_of codes c) where
  -- tokens that the places before k hold in another list too
  takes_kept : (xs ys : List ℕ) (s0 : PlainState) (p0 k : ℕ) (s : PlainState) (p : ℕ) → ((j : ℕ) → j < k → slice_index ys j ≡ slice_index xs j) →
      TakesTokens (λ u q. plain_read u bytes q c m) xs s0 p0 k s p → TakesTokens (λ u q. plain_read u bytes q c m) ys s0 p0 k s p
  takes_kept xs ys s0 p0 zero s p same h = h
  takes_kept xs ys s0 p0 (suc k) s p same h = (h.0, h.1, takes_kept xs ys s0 p0 k h.0 h.1 (λ j l. same j (omega arith)) h.2, rw (same k (omega arith)) h.3)

  -- an owed token
  owed_token : (v left p : ℕ) → plain_read (state (Runs v (suc left)) codes clusters) bytes p c m ≡ Ok (record { value = v; state = state (Runs v left) codes clusters; position = p })
  unfolding plain_read token_at
  owed_token v left p = refl

  -- tokens that a run owes were written after the first k
  pub takes_owed : (xs : List ℕ) (s0 : PlainState) (p0 k v left p n e : ℕ) → n ≤ left → e ≡ k + n → ((j : ℕ) → k ≤ j → j < e → slice_index xs j ≡ v) →
      TakesTokens (λ u q. plain_read u bytes q c m) xs s0 p0 k (state (Runs v left) codes clusters) p →
      TakesTokens (λ u q. plain_read u bytes q c m) xs s0 p0 e (state (Runs v (left - n)) codes clusters) p
  takes_owed xs s0 p0 k v left p zero e most end filled h =
      let none : left - 0 ≡ left = omega arith in
      let here : k ≡ e = omega arith in
      rw none (subst (λ n. TakesTokens (λ u q. plain_read u bytes q c m) xs s0 p0 n (state (Runs v left) codes clusters) p) here h)
  takes_owed xs s0 p0 k v left p (suc n) e most end filled h =
      let more : left - n ≡ suc (left - suc n) = omega arith in
      let next : suc (k + n) ≡ e = omega arith in
      let before = takes_owed xs s0 p0 k v left p n (k + n) (omega arith) refl (λ j least below. filled j least (omega arith)) h in
      let read : plain_read (state (Runs v (left - n)) codes clusters) bytes p c m ≡ Ok (record { value = slice_index xs (k + n); state = state (Runs v (left - suc n)) codes clusters; position = p })
      = rw (filled (k + n) (omega arith) (omega arith), more) (owed_token v (left - suc n) p) in
      subst (λ r. TakesTokens (λ u q. plain_read u bytes q c m) xs s0 p0 r (state (Runs v (left - suc n)) codes clusters) p) next (state (Runs v (left - n)) codes clusters, p, before, read)

  -- a token was read, and written as often as it comes
  pub takes_run : (xs ys : List ℕ) (s0 : PlainState) (p0 k : ℕ) (s : PlainState) (p v left q n : ℕ) → 0 < n → n ≤ left + 1 →
      ((j : ℕ) → j < k → slice_index ys j ≡ slice_index xs j) → ((j : ℕ) → k ≤ j → j < k + n → slice_index ys j ≡ v) →
      plain_read s bytes p c m ≡ Ok (record { value = v; state = state (Runs v left) codes clusters; position = q }) →
      TakesTokens (λ u r. plain_read u bytes r c m) xs s0 p0 k s p →
      TakesTokens (λ u r. plain_read u bytes r c m) ys s0 p0 (k + n) (state (Runs v (left + 1 - n)) codes clusters) q
  takes_run xs ys s0 p0 k s p v left q n least most kept filled read h =
      let first : TakesTokens (λ u r. plain_read u bytes r c m) ys s0 p0 (suc k) (state (Runs v left) codes clusters) q
      = (s, p, takes_kept xs ys s0 p0 k s p kept h, rw (filled k (omega arith) (omega arith)) read) in
      let rest : left - (n - 1) ≡ left + 1 - n = omega arith in
      rw (← rest) (takes_owed ys s0 p0 (suc k) v left q (n - 1) (k + n) (omega arith) (omega arith) (λ j l below. filled j (omega arith) below) first)
