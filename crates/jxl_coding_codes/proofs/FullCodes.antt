-- Codes that are read leave no room, so there are no bits that are no codeword.
use Rattle.std.specs.Prelude.{◌≡◌, ◌≢◌, ℕ, suc, ◌+◌, ◌-◌, ◌*◌, ◌%◌, ◌^◌, ◌<◌, ◌≤◌, List, [], ◌∷◌, length, replicate, Bool, true, false, cond, nat_lt, nat_le, ◌==◌, ◌||◌, Result, Ok, Err, IfOk}
use Rattle.std.proofs.Common.{refl, sym, ◌∙◌, inl, inr, arith}
use Rattle.std.specs.List.{sum_by}
use Rattle.std.proofs.lemmas.Bool.{cases_lt, cases_eq}
use Rattle.std.proofs.lemmas.Bool.Decides.{nat_tests}
use Rattle.std.proofs.lemmas.List.{length-append, length-replicate}
use Rattle.std.proofs.lemmas.List.Sums.{sum_by_push, sum_by-append, sum-map}
use Rattle.std.proofs.lemmas.List.Folds.{sum_by-replicate}
use Rattle.jxlm_bits.specs.Bits.{bit_at}
use Rattle.jxlm_bits.specs.Decoding.{Found}
use Rattle.jxlm_bits.specs.ErrorKind.{◌>>=◌}
use Rattle.jxlm_bits.specs.declared.decoder.DecoderError.{DecoderError}
use Rattle.jxlm_bits.specs.declared.decoder.DecoderError.TheVariants.{UnexpectedEof}
use Rattle.jxl_coding_codes.specs.Refusals.{refusal_error}
use Rattle.jxl_coding_codes.specs.declared.refusal.Refusal.TheVariants.{NoCodeword}
use Rattle.jxl_coding_codes.specs.Fields.{number_at}
use Rattle.jxl_coding_codes.specs.Reading.{steps}
use Rattle.jxl_coding_codes.specs.PrefixCodes.{Prefix, Lengths, no_lengths, one_length, run_up_to, run_of, signalled_at, lengths_step, lengths_at, long_code_at, code_length_code_at, prefix_of, codeword_at, next_symbol_at, share}
use Rattle.jxl_coding_codes.specs.Codewords.{IsFull, codewords_of}
use Rattle.jxl_coding_codes.proofs.Holding.{after, either, Any, anything, steps_keep}
use Rattle.jxl_coding_codes.proofs.CodewordReads.{counts_from, counts_are, read, some_stands}
use Rattle.jxl_coding_codes.proofs.LookupEntries.{after_bit, step, ends}

module _ (alphabet : ℕ) where
  -- what is left and what was taken are 2^15, and there are no more lengths than symbols
  abbrev Kept : Lengths → Type 0
  Kept s = (s.space + sum_by (share (2 ^ 15)) s.lengths ≡ 2 ^ 15) × (length s.lengths ≤ alphabet)

  one_keeps : (s : Lengths) (l : ℕ) → Kept s → length s.lengths < alphabet → IfOk (one_length s l) Kept
  one_keeps s l kept lt =
      either (nat_lt s.space (share (2 ^ 15) l)) _ _ Kept (λ e. tt)
      (λ e.
      let room : share (2 ^ 15) l ≤ s.space = grind (arith, nat_tests) in
      let more = sum_by_push (share (2 ^ 15)) s.lengths l in
      let many = length-append s.lengths (l ∷ []) in
      (omega (arith, kept.0, room, more), omega (arith, many, lt)))

  up_to_keeps : (s : Lengths) (l before run : ℕ) → Kept s → IfOk (run_up_to s alphabet l before run) Kept
  up_to_keeps s l before run kept =
      either (nat_lt alphabet (length s.lengths + (run - before))) _ _ Kept (λ e. tt)
      (λ e. either (nat_lt s.space ((run - before) * share (2 ^ 15) l)) _ _ Kept (λ k. tt)
      (λ k.
      let few : length s.lengths + (run - before) ≤ alphabet = grind (arith, nat_tests) in
      let room : (run - before) * share (2 ^ 15) l ≤ s.space = grind (arith, nat_tests) in
      let more = sum_by-append (share (2 ^ 15)) s.lengths (replicate (run - before) l) in
      let run_takes = sum_by-replicate (share (2 ^ 15)) (run - before) l in
      let many = length-append s.lengths (replicate (run - before) l) in
      let run_has = length-replicate {A = ℕ} (run - before) l in
      (omega (arith, kept.0, room, more, run_takes), omega (arith, many, run_has, few))))

  signalled_keeps : (s : Lengths) (symbol : ℕ) (bytes : List ℕ) (p : ℕ) → Kept s → length s.lengths < alphabet → IfOk (signalled_at alphabet s symbol bytes p) (λ f. Kept f.value)
  unfolding signalled_at
  signalled_keeps s symbol bytes p kept lt =
      either (nat_lt symbol 16) _ _ (λ f. Kept f.value)
      (λ e. after (one_length s symbol) _ Kept (λ f. Kept f.value) (one_keeps s symbol kept lt) (λ t now. now))
      (λ e. either (symbol == 16) _ _ (λ f. Kept f.value)
      (λ k. after (number_at bytes p 2) _ Any (λ f. Kept f.value) (anything (number_at bytes p 2))
      (λ more h. after (run_of s alphabet s.last 4 more.value) _ Kept (λ f. Kept f.value) (up_to_keeps s s.last _ _ kept) (λ t now. now)))
      (λ k. after (number_at bytes p 3) _ Any (λ f. Kept f.value) (anything (number_at bytes p 3))
      (λ more h. after (run_of s alphabet 0 8 more.value) _ Kept (λ f. Kept f.value) (up_to_keeps s 0 _ _ kept) (λ t now. now))))

  picked : (code : Prefix) (s : Lengths) (bytes : List ℕ) (p : ℕ) (t : Bool) → (t ≡ false → length s.lengths < alphabet) → Kept s →
      IfOk (cond t (Ok (record { value = s; position = p })) (next_symbol_at code bytes p >>= λ symbol. signalled_at alphabet s symbol.value bytes symbol.position)) (λ f. Kept f.value)
  picked code s bytes p true lt kept = kept
  picked code s bytes p false lt kept =
      after (next_symbol_at code bytes p) _ Any (λ f. Kept f.value) (anything (next_symbol_at code bytes p))
      (λ symbol h. signalled_keeps s symbol.value bytes symbol.position kept (lt refl))

  room : (s : Lengths) (a : Bool) → (a || nat_le alphabet (length s.lengths)) ≡ false → length s.lengths < alphabet
  room s true e = absurd cc
  room s false e = grind (arith, nat_tests)

  step_keeps : (code : Prefix) (s : Lengths) (bytes : List ℕ) (p : ℕ) → Kept s → IfOk (lengths_step code alphabet s bytes p) (λ f. Kept f.value)
  unfolding lengths_step
  step_keeps code s bytes p kept = picked code s bytes p (s.space == 0 || nat_le alphabet (length s.lengths)) (room s (s.space == 0)) kept

  -- lengths that are read leave no room
  pub full : (code : Prefix) (bytes : List ℕ) (p : ℕ) → IfOk (lengths_at code alphabet bytes p) (λ f. IsFull f.value × (length f.value ≤ alphabet))
  unfolding lengths_at
  full code bytes p =
      after (steps (lengths_step code alphabet) alphabet no_lengths bytes p) _ (λ f. Kept f.value) _
      (steps_keep (lengths_step code alphabet) (λ k s. Kept s) (λ k s all q kept. step_keeps code s all q kept) alphabet no_lengths bytes p (refl, omega arith))
      (λ f kept. either (f.value.space == 0) _ _ (λ g. IsFull g.value × (length g.value ≤ alphabet))
      (λ e.
      let none : f.value.space ≡ 0 = grind (arith, nat_tests) in
      (sum-map (share (2 ^ 15)) f.value.lengths ∙ omega (arith, kept.0, none), kept.1))
      (λ e. tt))

-- A code by lengths that leave no room.
pub record IsFullCode (alphabet : ℕ) (code : Prefix) : Type 0 where
  pub lengths : List ℕ
  pub of : code ≡ prefix_of lengths
  pub full : IsFull lengths
  pub few : length lengths ≤ alphabet

pub long_full : (skipped alphabet : ℕ) (bytes : List ℕ) (p : ℕ) → IfOk (long_code_at skipped alphabet bytes p) (λ f. IsFullCode alphabet f.value)
unfolding long_code_at
long_full skipped alphabet bytes p =
    after (code_length_code_at skipped bytes p) _ Any (λ (f : Found Prefix). IsFullCode alphabet f.value)
    (anything (code_length_code_at skipped bytes p))
    (λ code h. after (lengths_at (prefix_of code.value) alphabet bytes code.position) _ (λ f. IsFull f.value × (length f.value ≤ alphabet)) (λ f. IsFullCode alphabet f.value)
    (full alphabet (prefix_of code.value) bytes code.position) (λ f k. record { lengths = f.value; of = refl; full = k.0; few = k.1 }))

clash : {A : Type 0} {e : DecoderError} {x : A} → (let r : Result A DecoderError = Ok x in r) ≡ Err e → ⊥
clash h = cc

clash_ends : {A : Type 0} → (let r : Result A DecoderError = Err UnexpectedEof in r) ≡ Err (refusal_error NoCodeword) → ⊥
clash_ends h = cc

-- Bits that are no codeword are as many as the longest codeword has.
no_codeword : (counts symbols : List ℕ) (code place : ℕ) (bytes : List ℕ) (p : ℕ) → p ≤ 8 * length bytes → codeword_at counts symbols code place bytes p ≡ Err (refusal_error NoCodeword) → p + length counts ≤ 8 * length bytes
no_codeword [] symbols code place bytes p le h = omega (arith, le)
no_codeword (count ∷ counts) symbols code place bytes p le h =
    elim (cases_lt (8 * length bytes) (p + 1)) [
      | inl out ↦ absurd (clash_ends (sym (ends counts symbols count code place bytes p out) ∙ h))
      | inr room ↦ by_bit room (λ c q k. no_codeword counts symbols c q bytes (p + 1) room k) _ (sym (step counts symbols count code place bytes p room) ∙ h)
    ]
  where
    by_bit : p + 1 ≤ 8 * length bytes → ((code place : ℕ) → codeword_at counts symbols code place bytes (p + 1) ≡ Err (refusal_error NoCodeword) → p + 1 + length counts ≤ 8 * length bytes) → (t : Bool) → after_bit counts symbols count place bytes p ((2 * code + bit_at bytes p) % 2 ^ 32) t ≡ Err (refusal_error NoCodeword) → p + suc (length counts) ≤ 8 * length bytes
    by_bit room after true h = absurd (clash h)
    by_bit room after false h = let k = after _ _ h in omega (arith, k)

module _ (lengths bytes : List ℕ) (p : ℕ) (short : length lengths ≤ 2 ^ 15) (full : IsFull lengths) where
  several : length (prefix_of lengths).symbols ≢ 1 → next_symbol_at (prefix_of lengths) bytes p ≢ Err (refusal_error NoCodeword)
  several many h =
      let t : (length (prefix_of lengths).symbols == 1) ≡ false = grind (arith, nat_tests) in
      let walked : codeword_at (counts_from lengths 0 15) (prefix_of lengths).symbols 0 0 bytes p ≡ Err (refusal_error NoCodeword) = rw (counts_are lengths) at (rw t at h) in
      elim (cases_lt (8 * length bytes) (p + 1)) [
        | inl out ↦ clash_ends (sym (ends (counts_from lengths 1 14) (prefix_of lengths).symbols (codewords_of lengths 1) 0 0 bytes p out) ∙ walked)
        | inr room ↦
            let long : p + 15 ≤ 8 * length bytes = no_codeword (counts_from lengths 0 15) (prefix_of lengths).symbols 0 0 bytes p (omega (arith, room)) walked in
            let s = some_stands lengths bytes p full long in
            clash (sym (read lengths bytes s.0 p short s.1.0 s.1.1 many) ∙ h)
      ]

  pub never : next_symbol_at (prefix_of lengths) bytes p ≢ Err (refusal_error NoCodeword)
  never h =
      elim (cases_eq (length (prefix_of lengths).symbols) 1) [
        | inl e ↦ let t : (length (prefix_of lengths).symbols == 1) ≡ true = grind (arith, nat_tests) in clash (rw t at h)
        | inr many ↦ several many h
      ]
