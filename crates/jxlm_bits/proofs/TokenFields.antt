-- Tokens as fields, and what a call that reads one returns.
use Rattle.std.proofs.Common.{◌≡◌, ℕ, List, Ok, Err, None, Result, refl}
use Rattle.std.specs.Result.{result_map_both}
use Rattle.jxlm_bits.specs.Decoding.{Found, Taken, Meaning}
use Rattle.jxlm_bits.specs.ErrorKind.{ErrorKind, ErrorAt, OfDecoder, UnlessMemory}
use Rattle.jxlm_bits.specs.Grammar.{Grammar, IsErrorAt, give, ◌>>=◌}
use Rattle.jxlm_bits.specs.declared.decoder.DecoderError.{DecoderError}
use Rattle.jxlm_bits.proofs.ReadSteps.{always_so, first_refuses}
use Rattle.jxlm_bits.specs.Tokens.{After, token_value, token}

-- what such a call is as a field
abbrev pub of_decoder : {X : Type 0} → Result X DecoderError → Result X ErrorAt
of_decoder r = result_map_both (λ x. x) (λ e. record { error = OfDecoder e; position = None }) r

abbrev pub token_found : {S : Type 0} → Result (Taken ℕ S) DecoderError → Result (Found (After S ℕ)) DecoderError
token_found r = result_map_both (λ t. record { value = record { value = t.value; state = t.state }; position = t.position }) (λ e. e) r

module _ {S : Type 0} (r : Result (Taken ℕ S) DecoderError) where
  pub token_ok : (v : ℕ) (s : S) (q : ℕ) → r ≡ Ok (record { value = v; state = s; position = q }) →
      of_decoder (token_found r) ≡ Ok (record { value = record { value = v; state = s }; position = q })
  token_ok v s q h = rw h refl

  pub token_err : (e : DecoderError) (q : ℕ) → r ≡ Err e → UnlessMemory (OfDecoder e) (IsErrorAt (of_decoder (token_found r)) (OfDecoder e) q)
  token_err e q h = always_so (OfDecoder e) (record { place = None; refuses = rw h refl; stands = tt })

module _ {X : Type 0} (r : Result (Found X) DecoderError) where
  pub call_err : (e : DecoderError) (q : ℕ) → r ≡ Err e → UnlessMemory (OfDecoder e) (IsErrorAt (of_decoder r) (OfDecoder e) q)
  call_err e q h = always_so (OfDecoder e) (record { place = None; refuses = rw h refl; stands = tt })

-- A token that fails, whatever it means.
module _ {S : Type 0} (d : Meaning S) (bytes : List ℕ) (p q : ℕ) (s : S) where
  pub token_refuses : {X : Type 0} (context : ℕ) (means : ℕ → Grammar X) (error : ErrorKind) → UnlessMemory error (IsErrorAt ((token_value d context s).read bytes p) error q) →
      UnlessMemory error (IsErrorAt ((token d context means s).read bytes p) error q)
  token_refuses context means error h = first_refuses (token_value d context s) (λ t. means t.value >>= λ x. give (record { value = x; state = t.state })) bytes p error q h
