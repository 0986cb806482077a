-- Tokens as fields are read exactly: the parser returns exactly what the bits at its position code.
use Rattle.std.proofs.Common.{◌≡◌, ℕ, zero, suc, List, Ok, Err, None, Result, refl, ap}
use Rattle.jxlm_bits.specs.Decoding.{Found, Meaning}
use Rattle.jxlm_bits.specs.ErrorKind.{OfDecoder}
use Rattle.jxlm_bits.specs.Grammar.{Grammar, IsExact}
use Rattle.jxlm_bits.specs.Tokens.{Tokens, decoder_call, token, coded_tokens}
use Rattle.jxlm_bits.specs.Turns.{chain}
use Rattle.jxlm_bits.specs.declared.decoder.DecoderError.{DecoderError}
use Rattle.jxlm_bits.proofs.GrammarLaws.{bind, exact-give, found_same, none_found}
use Rattle.jxlm_bits.proofs.TokenFields.{of_decoder}

called_found : {X : Type 0} (r : Result (Found X) DecoderError) (found : Found X) → of_decoder r ≡ Ok found → r ≡ Ok found
called_found (Ok x) found e = ap Ok (found_same x found e)
called_found (Err e) found h = absurd (none_found (record { error = OfDecoder e; position = None }) found h)

exact-called : {X : Type 0} (call : List ℕ → ℕ → Result (Found X) DecoderError) → IsExact (decoder_call call)
exact-called call = record {
  read_stands = λ bytes p found e. called_found (call bytes p) found e;
  stands_read = λ bytes p x q s. rw s refl;
}

pub exact-chained : {S X : Type 0} (step : X → Tokens S X) → ((x : X) (s : S) → IsExact (step x s)) → (n : ℕ) (x : X) (s : S) → IsExact (chain step n x s)
unfolding chain
exact-chained step each zero x s = exact-give (record { value = x; state = s })
exact-chained step each (suc n) x s = bind (each x s) λ t. exact-chained step each n t.value t.state

module _ {S : Type 0} (d : Meaning S) where
  pub exact-token : {X : Type 0} (context : ℕ) (means : ℕ → Grammar X) → ((v : ℕ) → IsExact (means v)) → (s : S) → IsExact (token d context means s)
  exact-token context means each s = bind (exact-called _) λ t. bind (each t.value) λ x. exact-give (record { value = x; state = t.state })

  pub exact-coded : {X : Type 0} (contexts : ℕ) (tokens : Tokens S X) → ((s : S) → IsExact (tokens s)) → IsExact (coded_tokens d contexts tokens)
  exact-coded contexts tokens each =
      bind (bind (exact-called (λ bytes p. d.parse bytes p contexts)) λ s. exact-called (λ bytes p. d.begin s bytes p)) λ s.
      bind (each s) λ told. bind (exact-called _) λ u. exact-give told.value
