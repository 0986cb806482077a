-- Tokens that are read one after another, and flags with what they announce.
use Rattle.std.proofs.Common.{◌≡◌, ℕ, zero, suc, inl, inr, ◌+◌, ◌*◌, ◌<◌, ◌≤◌, ◌∙◌, Bool, List, length, slice_index, Ok, Err, ap, sym, refl, arith, nat_lt, true, false}
use Rattle.std.proofs.lemmas.Bool.{cases_lt}
use Rattle.std.proofs.lemmas.Bool.Decides.{nat_tests}
use Rattle.jxlm_bits.specs.Bits.{EndsEither, IsEither, bits_at, width_after}
use Rattle.jxlm_bits.specs.Decoding.{TakesTokens}
use Rattle.jxlm_bits.specs.declared.decoder.DecoderError.TheVariants.{UnexpectedEof}
use Rattle.jxlm_bits.specs.declared.decoder.RleToken.TheVariants.{Value, Repeat}
use Rattle.jxlm_bits.proofs.BitsLemmas.{bits_at-bound}
use Rattle.jxlm_plain.specs.Plain.{code_of, number_at, plain_read, run_at, token_at}
use Rattle.jxlm_plain.specs.declared.plain.Code.{Code}
use Rattle.jxlm_plain.specs.declared.plain.Code.TheVariants.{Fixed}
use Rattle.jxlm_plain.specs.declared.plain.Mode.TheVariants.{Unsealed}
use Rattle.jxlm_plain.proofs.PlainGives.{state}
use Rattle.jxlm_plain.proofs.PlainTokens.{number_there}

-- where they are numbers of n bits, not sealed and without runs
module _ (bytes : List ℕ) (n : ℕ) (codes : List Code) (clusters : List ℕ) (c m : ℕ) (is : Fixed n ≡ code_of codes c) where
  number_read : (q v : ℕ) → q + n ≤ 8 * length bytes → v ≡ bits_at bytes q n →
      plain_read (state Unsealed codes clusters) bytes q c m ≡ Ok (record { value = v; state = state Unsealed codes clusters; position = q + n })
  unfolding plain_read token_at
  number_read q v fits value = rw (← is, number_there bytes q n fits, value) refl

  -- this number of were read
  pub numbers_read : (tokens : List ℕ) (p k : ℕ) → p + n * k ≤ 8 * length bytes → ((j : ℕ) → j < k → slice_index tokens j ≡ bits_at bytes (p + n * j) n) →
      TakesTokens (λ u q. plain_read u bytes q c m) tokens (state Unsealed codes clusters) p k (state Unsealed codes clusters) (p + n * k)
  numbers_read tokens p zero fits values = (refl, omega arith)
  numbers_read tokens p (suc k) fits values =
      let next : p + n * k + n ≡ p + n * suc k = omega arith in (
        state Unsealed codes clusters,
        p + n * k,
        numbers_read tokens p k (omega arith) (λ j l. values j (omega arith)),
        rw (← next) (number_read (p + n * k) (slice_index tokens k) (omega arith) (values k (omega arith))),
      )

  -- the next one is cut off
  pub number_ends : (q : ℕ) → 8 * length bytes < q + n → plain_read (state Unsealed codes clusters) bytes q c m ≡ Err UnexpectedEof
  unfolding plain_read token_at number_at
  number_ends q cut = let e : nat_lt (8 * length bytes) (q + n) ≡ true = grind (arith, nat_tests) in rw (← is, e) refl

-- ---- a flag, and what it announces

cut_off : (bytes : List ℕ) (p b : ℕ) → 8 * length bytes < p + b → number_at bytes p b ≡ Err UnexpectedEof
unfolding number_at
cut_off bytes p b cut = let e : nat_lt (8 * length bytes) (p + b) ≡ true = grind (arith, nat_tests) in rw e refl

module _ (bytes : List ℕ) (width p : ℕ) where
  abbrev flag : ℕ
  flag = bits_at bytes p 1

  module _ (v q : ℕ) where
    -- a token
    pub flagged_token : (bit : Bool) → bit ≡ false → IsEither width 8 bytes p bit v q → run_at (Fixed width) bytes p ≡ Ok (record { value = Value v; position = q })
    unfolding run_at
    flagged_token bit off h =
        let is = sym h.bit_is ∙ off in
        let place = h.position in
        let fit = h.fit in
        let zero_flag : flag ≡ 0 = (let b = bits_at-bound bytes p 1 in grind (arith, nat_tests)) in
        let wide : width_after width 8 bytes p ≡ width = rw zero_flag refl in
        let value : v ≡ bits_at bytes (p + 1) width = h.number_is ∙ ap (bits_at bytes (p + 1)) wide in
        let end : q ≡ p + 1 + width = place ∙ ap (λ n. p + 1 + n) wide in
        rw (number_there bytes p 1 (omega (arith, fit, end)), zero_flag, number_there bytes (p + 1) width (omega (arith, fit, end)), value, end) refl

    -- a run
    pub flagged_run : (bit : Bool) → bit ≡ true → IsEither width 8 bytes p bit v q → (run_at (Fixed width) bytes p ≡ Ok (record { value = Repeat (1 + v); position = q })) × (v < 256)
    unfolding run_at
    flagged_run bit on h =
        let is = sym h.bit_is ∙ on in
        let place = h.position in
        let fit = h.fit in
        let one_flag : flag ≡ 1 = (let b = bits_at-bound bytes p 1 in grind (arith, nat_tests)) in
        let wide : width_after width 8 bytes p ≡ 8 = rw one_flag refl in
        let value : v ≡ bits_at bytes (p + 1) 8 = h.number_is ∙ ap (bits_at bytes (p + 1)) wide in
        let end : q ≡ p + 1 + 8 = place ∙ ap (λ n. p + 1 + n) wide in
        let below : bits_at bytes (p + 1) 8 < 256 = bits_at-bound bytes (p + 1) 8 in
        (rw (number_there bytes p 1 (omega (arith, fit, end)), one_flag, number_there bytes (p + 1) 8 (omega (arith, fit, end)), value, end) refl, omega (arith, value, below))

  -- the input ends before
  pub flagged_end : EndsEither width 8 bytes p → run_at (Fixed width) bytes p ≡ Err UnexpectedEof
  unfolding run_at
  flagged_end cut =
      elim (cases_lt (8 * length bytes) (p + 1)) [
        | inl none ↦ rw (cut_off bytes p 1 none) refl
        | inr some ↦
            let b = bits_at-bound bytes p 1 in
            elim (cases_lt flag 1) [
              | inl low ↦
                  let zero_flag : flag ≡ 0 = omega (arith, low) in
                  let wide : width_after width 8 bytes p ≡ width = rw zero_flag refl in
                  let ends : 8 * length bytes < p + 1 + width = omega (arith, cut, wide) in
                  rw (number_there bytes p 1 some, zero_flag, cut_off bytes (p + 1) width ends) refl
              | inr high ↦
                  let one_flag : flag ≡ 1 = omega (arith, high, b) in
                  let wide : width_after width 8 bytes p ≡ 8 = rw one_flag refl in
                  let ends : 8 * length bytes < p + 1 + 8 = omega (arith, cut, wide) in
                  rw (number_there bytes p 1 some, one_flag, cut_off bytes (p + 1) 8 ends) refl
            ]
      ]
