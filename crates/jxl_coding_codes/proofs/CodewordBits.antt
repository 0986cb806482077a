-- A codeword that is read from the bits ahead, one after another.
use Rattle.std.specs.Prelude.{◌≡◌, ℕ, ◌+◌, ◌-◌, ◌*◌, ◌%◌, ◌^◌, ◌<◌, ◌≤◌, List, length, drop, Bool, true, false, nat_lt, Result, Ok, Err, slice_index_or}
use Rattle.std.proofs.Common.{sym, ap, ◌∙◌, arith}
use Rattle.std.proofs.lemmas.Bool.Decides.{nat_tests}
use Rattle.std.proofs.lemmas.List.{at_drop_more, at_drop_all}
use Rattle.jxlm_bits.specs.Bits.{bit_at, bits_at}
use Rattle.jxlm_bits.specs.Decoding.{Found}
use Rattle.jxlm_bits.specs.declared.decoder.DecoderError.{DecoderError}
use Rattle.jxl_coding_codes.specs.Refusals.{refusal_error}
use Rattle.jxl_coding_codes.specs.declared.refusal.Refusal.TheVariants.{NoCodeword}
use Rattle.jxl_coding_codes.specs.PrefixCodes.{codeword_at}
use Rattle.jxl_coding_codes.proofs.LookupEntries.{after_bit, step}

-- a bit of the number of the bits ahead
pub bit_ahead : (bytes : List ℕ) (p i v : ℕ) → v ≡ bits_at bytes (p + 0 + i) 1 → v ≡ bit_at bytes (p + i)
bit_ahead bytes p i v h =
    let q : p + 0 + i ≡ p + i = omega arith in
    let z : p + i + 0 ≡ p + i = omega arith in
    let b : bits_at bytes (p + i) 1 ≡ bit_at bytes (p + i) = rw z (omega arith) in
    h ∙ ap (λ (k : ℕ). bits_at bytes k 1) q ∙ b

abbrev found_at : ℕ → ℕ → Result (Found ℕ) DecoderError
found_at value position = Ok (record { value = value; position = position })

module _ (counts symbols : List ℕ) (start : ℕ) (bytes : List ℕ) (p : ℕ) where
  -- what is left of reading the codeword after i bits of it
  abbrev pub LeftAfter : ℕ → ℕ → ℕ → Type 0
  LeftAfter i code place = codeword_at counts symbols 0 start bytes p ≡ codeword_at (drop i counts) symbols code place bytes (p + i)

  pub all_left : LeftAfter 0 0 start
  all_left = let z : p ≡ p + 0 = omega arith in ap (λ (q : ℕ). codeword_at counts symbols 0 start bytes q) z

  one_bit_more : (i code place v : ℕ) (t : Bool) → i < length counts → p + i + 1 ≤ 8 * length bytes → v ≡ (2 * code + bit_at bytes (p + i)) % 2 ^ 32 → nat_lt v (slice_index_or counts i 0) ≡ t →
      LeftAfter i code place → codeword_at counts symbols 0 start bytes p ≡ after_bit (drop (i + 1) counts) symbols (slice_index_or counts i 0) place bytes (p + i) v t
  one_bit_more i code place v t lt room is test left =
      left ∙ at_drop_more (λ (cs : List ℕ). codeword_at cs symbols code place bytes (p + i)) counts i 0 lt
      ∙ step (drop (i + 1) counts) symbols (slice_index_or counts i 0) code place bytes (p + i) room
      ∙ ap (λ (x : ℕ). after_bit (drop (i + 1) counts) symbols (slice_index_or counts i 0) place bytes (p + i) x (nat_lt x (slice_index_or counts i 0))) (sym is)
      ∙ ap (λ (x : Bool). after_bit (drop (i + 1) counts) symbols (slice_index_or counts i 0) place bytes (p + i) v x) test

  -- the codeword ends with this bit
  pub ends_there : (i code place v symbol q : ℕ) → i < length counts → p + i + 1 ≤ 8 * length bytes → v ≡ (2 * code + bit_at bytes (p + i)) % 2 ^ 32 → v < slice_index_or counts i 0 →
      symbol ≡ slice_index_or symbols ((place + v) % 2 ^ 32) 0 → q ≡ p + (i + 1) → LeftAfter i code place → codeword_at counts symbols 0 start bytes p ≡ Ok (record { value = symbol; position = q })
  ends_there i code place v symbol q lt room is less value end left =
      let t : nat_lt v (slice_index_or counts i 0) ≡ true = grind (arith, nat_tests) in
      let e : p + i + 1 ≡ q = omega (arith, end) in
      one_bit_more i code place v true lt room is t left ∙ ap (λ (x : ℕ). found_at (slice_index_or symbols ((place + v) % 2 ^ 32) 0) x) e ∙ ap (λ (x : ℕ). found_at x q) (sym value)

  -- the codeword is longer
  pub goes_past : (i code place v code2 place2 : ℕ) → i < length counts → p + i + 1 ≤ 8 * length bytes → v ≡ (2 * code + bit_at bytes (p + i)) % 2 ^ 32 → slice_index_or counts i 0 ≤ v →
      code2 ≡ v - slice_index_or counts i 0 → place2 ≡ (place + slice_index_or counts i 0) % 2 ^ 32 → LeftAfter i code place → LeftAfter (i + 1) code2 place2
  goes_past i code place v code2 place2 lt room is more c2 p2 left =
      let t : nat_lt v (slice_index_or counts i 0) ≡ false = grind (arith, nat_tests) in
      let e : p + i + 1 ≡ p + (i + 1) = omega arith in
      one_bit_more i code place v false lt room is t left
      ∙ ap (λ (q : ℕ). codeword_at (drop (i + 1) counts) symbols (v - slice_index_or counts i 0) ((place + slice_index_or counts i 0) % 2 ^ 32) bytes q) e
      ∙ ap (λ (x : ℕ). codeword_at (drop (i + 1) counts) symbols x ((place + slice_index_or counts i 0) % 2 ^ 32) bytes (p + (i + 1))) (sym c2)
      ∙ ap (λ (x : ℕ). codeword_at (drop (i + 1) counts) symbols code2 x bytes (p + (i + 1))) (sym p2)

  -- no codeword is as long
  pub ends_nowhere : (i code place : ℕ) → length counts ≤ i → LeftAfter i code place → codeword_at counts symbols 0 start bytes p ≡ Err (refusal_error NoCodeword)
  unfolding codeword_at
  ends_nowhere i code place le left = left ∙ at_drop_all (λ (cs : List ℕ). codeword_at cs symbols code place bytes (p + i)) counts i le
