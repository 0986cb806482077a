-- A byte of a profile, by its token.
use Rattle.std.proofs.Common.{◌≡◌, ℕ, ◌%◌, List, ◌∷◌, Ok, refl}
use Rattle.jxlm_bits.specs.Decoding.{Meaning}
use Rattle.jxlm_bits.specs.Tokens.{token_value}
use Rattle.jxl_codestream.specs.Profiles.{context_of, one_byte}

module _ {S : Type 0} (d : Meaning S) (bytes : List ℕ) (p q : ℕ) (s : S) where
  pub byte_ok : (all : List ℕ) (v : ℕ) (t : S) → (token_value d (context_of all) s).read bytes p ≡ Ok (record { value = record { value = v; state = t }; position = q }) →
      (one_byte d all s).read bytes p ≡ Ok (record { value = record { value = v % 256 ∷ all; state = t }; position = q })
  byte_ok all v t h = rw h refl
