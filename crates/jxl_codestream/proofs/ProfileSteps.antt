-- What an encoded profile gives where its bytes are not read.
use Rattle.std.proofs.Common.{◌≡◌, ℕ, List, [], Result, Ok, Err, refl, inl, inr}
use Rattle.std.specs.Prelude.{◌⊎◌}
use Rattle.jxl_icc.specs.declared.error.ProfileError.{ProfileError}
use Rattle.jxl_icc.specs.declared.error.ProfileError.TheVariants.{OutOfMemory}
use Rattle.jxlm_bits.specs.Decoding.{Meaning}
use Rattle.jxlm_bits.specs.ErrorKind.{ErrorKind, UnlessMemory}
use Rattle.jxlm_bits.specs.Grammar.{IsErrorAt}
use Rattle.jxlm_bits.proofs.ReadSteps.{always_so, unless_so}
use Rattle.jxlm_bits.specs.Turns.{chain}
use Rattle.jxl_codestream.specs.Profiles.{encoded_profile, icc_kind, icc_or_error, one_byte}
use Rattle.jxl_codestream.specs.Inner.Steps.{decoder, length_in}

pub encoded_fails : {S : Type 0} (d : Meaning S) (limit : ℕ) (bytes : List ℕ) (p n a : ℕ) (s : S) (b : ℕ) (error : ErrorKind) (q : ℕ) →
    (length_in limit).read bytes p ≡ Ok (record { value = n; position = a }) → (decoder d 41).read bytes a ≡ Ok (record { value = s; position = b }) →
    UnlessMemory error (IsErrorAt ((chain (one_byte d) n [] s).read bytes b) error q) → UnlessMemory error (IsErrorAt ((encoded_profile d limit).read bytes p) error q)
encoded_fails d limit bytes p n a s b error q first second refused =
    unless_so error {P = IsErrorAt ((chain (one_byte d) n [] s).read bytes b) error q} {Q = IsErrorAt ((encoded_profile d limit).read bytes p) error q}
    (λ r. record { place = r.place; refuses = rw (first, second, r.refuses) refl; stands = r.stands }) refused

-- what is returned of a profile that is not decoded
pub icc_refused : (r : Result (List ℕ) ProfileError) (e : ProfileError) (k : ErrorKind) → k ≡ icc_kind e → (e ≡ OutOfMemory) ⊎ (r ≡ Err e) → UnlessMemory k (icc_or_error r ≡ Err k)
unfolding icc_kind
icc_refused r e k same h = elim h [ inl is ↦ rw (same, is) tt | inr is ↦ rw (same, is) (always_so (icc_kind e) refl) ]
