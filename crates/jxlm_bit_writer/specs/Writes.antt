-- What was written, and what a reader finds where it is (ISO/IEC 18181-1, notation of bundles and fields).
use Rattle.std.specs.Prelude.{◌≡◌, ℕ, ◌+◌, List, ◌++◌, length, Result, Ok}
use Rattle.jxlm_bits.specs.Decoding.{Found}
use Rattle.jxlm_bits.specs.Grammar.{Grammar}
use Rattle.jxlm_bit_writer.specs.Written.{HasBits}

-- The new bits are the old ones and a word. Wherever the word is, in any bytes, this holds of its first position and of
-- the one after it.
pub record Adds (old new : List ℕ) (Holds : List ℕ → ℕ → ℕ → Type 0) : Type 0 where
  pub word : List ℕ
  pub added : new ≡ old ++ word
  pub holds : (bytes : List ℕ) (p : ℕ) → HasBits bytes p word → Holds bytes p (p + length word)

-- a word was added at which the reading gives this value, and ends where the word ends
abbrev pub Writes : {X E : Type 0} → List ℕ → List ℕ → (List ℕ → ℕ → Result (Found X) E) → X → Type 0
Writes old new reading x = Adds old new (λ bytes p q. reading bytes p ≡ Ok (record { value = x; position = q }))

-- a word was added that spells this value of the field
abbrev pub Spells : {X : Type 0} → List ℕ → List ℕ → Grammar X → X → Type 0
Spells old new field x = Adds old new (λ bytes p q. field.Stands bytes p x q)
