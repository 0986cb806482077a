-- What an entropy decoder reads, as fields: tokens, and its state, which goes on from one to the next.
use Rattle.std.specs.Prelude.{◌≡◌, ℕ, List, slice_index, None, Result, Ok}
use Rattle.std.specs.Result.{result_map_both}
use Rattle.jxlm_bits.specs.Decoding.{Found, Meaning}
use Rattle.jxlm_bits.specs.ErrorKind.{OfDecoder}
use Rattle.jxlm_bits.specs.Grammar.{Grammar, give, ◌>>=◌}
use Rattle.jxlm_bits.specs.declared.decoder.DecoderError.{DecoderError}

-- what a call of a decoder reads; where its error leaves the reader is its own matter
abbrev pub decoder_call : {X : Type 0} → (List ℕ → ℕ → Result (Found X) DecoderError) → Grammar X
decoder_call call = record {
  read = λ bytes p. result_map_both (λ x. x) (λ e. record { error = OfDecoder e; position = None }) (call bytes p);
  Stands = λ bytes p x q. call bytes p ≡ Ok (record { value = x; position = q });
}

-- a value, and the decoder's state after it
pub record After (S X : Type 0) : Type 0 where
  pub value : X
  pub state : S

-- what tokens tell, from a state of the decoder on
abbrev pub Tokens : Type 0 → Type 0 → Type 1
Tokens S X = S → Grammar (After S X)

-- the token of a context, and what it means
abbrev pub token_value : {S : Type 0} → Meaning S → ℕ → Tokens S ℕ
token_value d context s = decoder_call (λ bytes p. result_map_both (λ t. record { value = record { value = t.value; state = t.state }; position = t.position }) (λ e. e)
    (d.read s bytes p (slice_index (d.cluster_map s) context) 0))

abbrev pub token : {S X : Type 0} → Meaning S → ℕ → (ℕ → Grammar X) → Tokens S X
token d context means s = token_value d context s >>= λ t. means t.value >>= λ x. give (record { value = x; state = t.state })

-- what the tokens of a decoder of this number of contexts tell: it comes before them, and their end is checked
abbrev pub coded_tokens : {S X : Type 0} → Meaning S → ℕ → Tokens S X → Grammar X
coded_tokens d contexts tokens = do
  s ← decoder_call (λ bytes p. d.parse bytes p contexts) >>= λ s. decoder_call (λ bytes p. d.begin s bytes p)
  all ← tokens s
  u ← decoder_call (λ bytes p. result_map_both (λ u. record { value = u; position = p }) (λ e. e) (d.finalize all.state))
  give all.value
