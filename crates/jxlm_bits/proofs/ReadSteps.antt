-- Readings one after another, and where the error of one of them leads.
use Rattle.std.proofs.Common.{◌≡◌, ℕ, List, Ok, refl}
use Rattle.jxlm_bits.specs.ErrorKind.{ErrorKind, Eof, BadEnum, BadProfile, BadTree, NoGlobalTree, BadRct, BadPalette, BadSqueeze, OfDecoder, NoMemory, UnlessMemory, UnlessNoMemory}
use Rattle.jxlm_bits.specs.Grammar.{Grammar, IsErrorAt, ◌>>=◌}
use Rattle.jxlm_bits.specs.declared.decoder.DecoderError.TheVariants.{UnexpectedEof, Invalid, OutOfMemory}
use Rattle.jxlm_bits.proofs.UnlessMemory as headers

-- a fact leads to another one, with a decoder
pub unless_so : (error : ErrorKind) {P Q : Type 0} → (P → Q) → UnlessMemory error P → UnlessMemory error Q
unless_so Eof f h = f h
unless_so (BadEnum name value) f h = f h
unless_so (BadProfile text) f h = f h
unless_so BadTree f h = f h
unless_so NoGlobalTree f h = f h
unless_so BadRct f h = f h
unless_so BadPalette f h = f h
unless_so BadSqueeze f h = f h
unless_so (OfDecoder UnexpectedEof) f h = f h
unless_so (OfDecoder (Invalid k)) f h = f h
unless_so (OfDecoder OutOfMemory) f h = tt
unless_so NoMemory f h = tt

pub always_so : (error : ErrorKind) {P : Type 0} → P → UnlessMemory error P
always_so Eof h = h
always_so (BadEnum name value) h = h
always_so (BadProfile text) h = h
always_so BadTree h = h
always_so NoGlobalTree h = h
always_so BadRct h = h
always_so BadPalette h = h
always_so BadSqueeze h = h
always_so (OfDecoder UnexpectedEof) h = h
always_so (OfDecoder (Invalid k)) h = h
always_so (OfDecoder OutOfMemory) h = tt
always_so NoMemory h = tt

-- what a call without a decoder returns, a call with one may
pub with_decoder : (error : ErrorKind) (P : Type 0) → UnlessNoMemory error P → UnlessMemory error P
with_decoder Eof P h = h
with_decoder (BadEnum name value) P h = h
with_decoder (BadProfile text) P h = h
with_decoder BadTree P h = h
with_decoder NoGlobalTree P h = h
with_decoder BadRct P h = h
with_decoder BadPalette P h = h
with_decoder BadSqueeze P h = h
with_decoder (OfDecoder UnexpectedEof) P h = h
with_decoder (OfDecoder (Invalid k)) P h = h
with_decoder (OfDecoder OutOfMemory) P h = tt
with_decoder NoMemory P h = tt

module _ {X Y : Type 0} (field : Grammar X) (next : X → Grammar Y) (bytes : List ℕ) (p : ℕ) (error : ErrorKind) (q : ℕ) where
  first_error : IsErrorAt (field.read bytes p) error q → IsErrorAt ((field >>= next).read bytes p) error q
  first_error r = record { place = r.place; refuses = rw r.refuses refl; stands = r.stands }

  next_error : (x : X) (m : ℕ) → field.read bytes p ≡ Ok (record { value = x; position = m }) → IsErrorAt ((next x).read bytes m) error q → IsErrorAt ((field >>= next).read bytes p) error q
  next_error x m h r = record { place = r.place; refuses = rw h r.refuses; stands = r.stands }

  -- an error of the first field is one of both, and so is one of the second after the first
  pub first_fails : UnlessNoMemory error (IsErrorAt (field.read bytes p) error q) → UnlessNoMemory error (IsErrorAt ((field >>= next).read bytes p) error q)
  first_fails h = headers.unless_so error (IsErrorAt (field.read bytes p) error q) (IsErrorAt ((field >>= next).read bytes p) error q) first_error h

  pub next_fails : (x : X) (m : ℕ) → field.read bytes p ≡ Ok (record { value = x; position = m }) →
      UnlessNoMemory error (IsErrorAt ((next x).read bytes m) error q) → UnlessNoMemory error (IsErrorAt ((field >>= next).read bytes p) error q)
  next_fails x m h rest = headers.unless_so error (IsErrorAt ((next x).read bytes m) error q) (IsErrorAt ((field >>= next).read bytes p) error q) (next_error x m h) rest

  -- the same with a decoder
  pub first_refuses : UnlessMemory error (IsErrorAt (field.read bytes p) error q) → UnlessMemory error (IsErrorAt ((field >>= next).read bytes p) error q)
  first_refuses h = unless_so error {P = IsErrorAt (field.read bytes p) error q} {Q = IsErrorAt ((field >>= next).read bytes p) error q} first_error h

  pub next_refuses : (x : X) (m : ℕ) → field.read bytes p ≡ Ok (record { value = x; position = m }) →
      UnlessMemory error (IsErrorAt ((next x).read bytes m) error q) → UnlessMemory error (IsErrorAt ((field >>= next).read bytes p) error q)
  next_refuses x m h rest = unless_so error {P = IsErrorAt ((next x).read bytes m) error q} {Q = IsErrorAt ((field >>= next).read bytes p) error q} (next_error x m h) rest
