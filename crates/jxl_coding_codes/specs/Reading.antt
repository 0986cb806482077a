-- Readings one after another.
use Rattle.std.specs.Prelude.{◌≡◌, ℕ, zero, suc, List, [], ◌∷◌, ◌++◌, Result, Ok, Err}
use Rattle.jxlm_bits.specs.Decoding.{Found, Fails}
use Rattle.jxlm_bits.specs.ErrorKind.{◌>>=◌}
use Rattle.jxlm_bits.specs.declared.decoder.DecoderError.{DecoderError}

-- n readings, each from what the one before found; the first error ends them
unfoldable pub steps : {X : Type 0} → (X → List ℕ → ℕ → Result (Found X) DecoderError) → ℕ → X → List ℕ → ℕ → Result (Found X) DecoderError
steps step zero x bytes p = Ok (record { value = x; position = p })
steps step (suc n) x bytes p = do
  found ← step x bytes p
  steps step n found.value bytes found.position

-- a list with one more value, which is read
abbrev pub list_and_one : {X : Type 0} → (List ℕ → ℕ → Result (Found X) DecoderError) → List X → List ℕ → ℕ → Result (Found (List X)) DecoderError
list_and_one read xs bytes p = do
  found ← read bytes p
  Ok (record { value = xs ++ found.value ∷ []; position = found.position })

-- what was read, and the reader's position after it, are what the meaning gives; an error is its error, and memory is
-- never short
abbrev pub Exactly : Result ℕ DecoderError → ℕ → Result (Found ℕ) DecoderError → Type 0
Exactly (Ok v) q meaning = meaning ≡ Ok (record { value = v; position = q })
Exactly (Err e) q meaning = meaning ≡ Err e

-- what changed in place is what the meaning gives, with the reader left at q; an error is its error
abbrev pub StepGives : {X : Type 0} → Result (Unit {0}) DecoderError → X → ℕ → Result (Found X) DecoderError → Type 0
StepGives (Ok u) x q meaning = meaning ≡ Ok (record { value = x; position = q })
StepGives (Err e) x q meaning = Fails e meaning
