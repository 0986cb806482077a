-- Runs ahead of the reader: what the next bits, as one number, say.
use Rattle.std.proofs.Common.{◌≡◌, ℕ, ◌+◌, ◌-◌, ◌/◌, ◌%◌, ◌^◌, ◌≤◌, ◌==◌, ◌∙◌, Bool, true, false, if◌then◌else◌, List, length, Ok, refl, sym, ap, arith}
use Rattle.std.proofs.lemmas.Bool.{eqb-false, eqb-true}
use Rattle.jxlm_bits.specs.Bits.{bits_at}
use Rattle.jxlm_bits.specs.declared.decoder.RleToken.TheVariants.{Value, Repeat}
use Rattle.jxlm_plain.specs.Plain.{run_at, token_at}
use Rattle.jxlm_plain.specs.declared.plain.Code.TheVariants.{Fixed}
use Rattle.jxlm_plain.specs.declared.plain.Mode.TheVariants.{Runs}
use Rattle.jxlm_plain.proofs.PlainTokens.{number_there}

module _ (bytes : List ℕ) (width p word : ℕ) (room : p / 8 + 8 ≤ length bytes) (is : (b n : ℕ) → b + n ≤ 57 → word / 2 ^ b % 2 ^ n ≡ bits_at bytes (p + b) n) where
  flag_is : word % 2 ≡ bits_at bytes p 1
  flag_is =
      let h = is 0 1 (omega arith) in
      let whole : word / 1 ≡ word = omega arith in
      let place : p + 0 ≡ p = omega arith in
      sym (ap (λ v. v % 2) whole) ∙ h ∙ ap (λ q. bits_at bytes q 1) place

  -- a run
  pub run_ahead : word % 2 ≡ 1 → run_at (Fixed width) bytes p ≡ Ok (record { value = Repeat (1 + word / 2 % 256); position = p + 9 })
  unfolding run_at
  run_ahead one =
      let flag : bits_at bytes p 1 ≡ 1 = sym flag_is ∙ one in
      let number : word / 2 % 256 ≡ bits_at bytes (p + 1) 8 = is 1 8 (omega arith) in
      let end : p + 1 + 8 ≡ p + 9 = omega arith in
      rw (number_there bytes p 1 (omega (arith, room)), flag, number_there bytes (p + 1) 8 (omega (arith, room)), number, end) refl

  -- a token
  pub token_there : width ≤ 32 → word % 2 ≡ 0 → run_at (Fixed width) bytes p ≡ Ok (record { value = Value (word / 2 % 2 ^ width); position = p + 1 + width })
  unfolding run_at
  token_there narrow zero_bit =
      let flag : bits_at bytes p 1 ≡ 0 = sym flag_is ∙ zero_bit in
      let number : word / 2 % 2 ^ width ≡ bits_at bytes (p + 1) width = is 1 width (omega (arith, narrow)) in
      rw (number_there bytes p 1 (omega (arith, room)), flag, number_there bytes (p + 1) width (omega (arith, room, narrow)), number) refl

  -- so the next token is the last one once more, or is there
  pub next_of_run : (last left : ℕ) → left ≡ 0 → word % 2 ≡ 1 →
      token_at (Runs last left) (Fixed width) bytes p ≡ Ok (record { value = last; state = Runs last (word / 2 % 256); position = p + 9 })
  unfolding token_at
  next_of_run last left none one =
      let owed : 1 + word / 2 % 256 - 1 ≡ word / 2 % 256 = omega arith in
      rw (none, run_ahead one, owed) refl

  pub next_token : width ≤ 32 → (last left : ℕ) → left ≡ 0 → word % 2 ≡ 0 →
      token_at (Runs last left) (Fixed width) bytes p ≡ Ok (record { value = word / 2 % 2 ^ width; state = Runs (word / 2 % 2 ^ width) 0; position = p + 1 + width })
  unfolding token_at
  next_token narrow last left none zero_bit = rw (none, token_there narrow zero_bit) refl

  -- so either is there, by the flag
  pub next_ahead : width ≤ 32 → (last left : ℕ) → left ≡ 0 → (run : Bool) → (word % 2 == 1) ≡ run →
      token_at (Runs last left) (Fixed width) bytes p ≡ Ok (record {
        value = if run then last else word / 2 % 2 ^ width;
        state = Runs (if run then last else word / 2 % 2 ^ width) (if run then word / 2 % 256 else 0);
        position = p + (if run then 9 else 1 + width);
      })
  next_ahead narrow last left none true is = next_of_run last left none (eqb-true (word % 2) 1 is)
  next_ahead narrow last left none false is =
      let odd = eqb-false (word % 2) 1 is in
      let even : word % 2 ≡ 0 = grind (arith, odd) in
      let place : p + (1 + width) ≡ p + 1 + width = omega arith in
      rw place (next_token narrow last left none even)
