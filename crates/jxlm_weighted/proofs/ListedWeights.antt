-- Fields of a header that stand one after the other in the same bytes: the first that is truncated ends the reading.
use Rattle.std.proofs.Common.{◌≡◌, ℕ, List, Result, Ok, Err, Some, refl, rules, subst, sym, ◌∙◌}
use Rattle.std.specs.Prelude.{IfOk, IsErrAnd}
use Rattle.jxlm_bits.specs.Decoding.{Found}
use Rattle.jxlm_bits.specs.ErrorKind.{ErrorAt, bitstream_kind, ◌>>=◌}
use Rattle.jxlm_bits.specs.Grammar.{Reads, number}
use Rattle.jxlm_bits.specs.declared.bits.BitstreamError.{BitstreamError}
use Rattle.jxlm_weighted.specs.SelfCorrecting.{IsHeader}
use Rattle.jxlm_weighted.specs.declared.weights.WpHeader.{WpHeader}

-- the reader had bytes b before a field of n bits, and has bytes d after it; a is what it had at first
module _ {Y : Type 0} {a b : List ℕ} (n p : ℕ) (next : Found ℕ → Result (Found Y) ErrorAt) where
  -- the field is read, and then what is after it
  pub after : {d : List ℕ} {found : Found ℕ} {r : Result (Found Y) ErrorAt} → b ≡ a → (number n).read b p ≡ Ok found → d ≡ b → (d ≡ a → next found ≡ r) → ((number n).read a p >>= next) ≡ r
  after {found} same reads kept rest = let h = subst (λ l. (number n).read l p ≡ Ok found) same reads in rw h (rest (kept ∙ same))

  -- the field is truncated
  pub ended : {error : ErrorAt} → b ≡ a → (number n).read b p ≡ Err error → ((number n).read a p >>= next) ≡ Err error
  ended {error} same reads = let h = subst (λ l. (number n).read l p ≡ Err error) same reads in rw h refl

-- its error is returned, and no header
pub refused : (result : Result WpHeader BitstreamError) (q : ℕ) (reading : Result (Found WpHeader) ErrorAt) (e : BitstreamError) → IsErrAnd result (λ x. x ≡ e) → reading ≡ Err (record { error = bitstream_kind e; position = Some q }) → Reads (λ h. h) result q reading
refused (Ok v) q reading e is h = absurd is
refused (Err x) q reading e is h = rw is h

pub no_header : (result : Result WpHeader BitstreamError) (e : BitstreamError) → IsErrAnd result (λ x. x ≡ e) → IfOk result (λ h. IsHeader h)
no_header (Ok h) e is = absurd is
no_header (Err x) e is = search rules

-- what the rest of the fields give
pub read_on : (result : Result WpHeader BitstreamError) (q : ℕ) (reading rest : Result (Found WpHeader) ErrorAt) → reading ≡ rest → Reads (λ h. h) result q rest → Reads (λ h. h) result q reading
read_on result q reading rest same reads = subst (λ r. Reads (λ h. h) result q r) (sym same) reads
