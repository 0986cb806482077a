-- Fields in the input: how each is read, and where a value stands (ISO/IEC 18181-1, notation of bundles and fields).
use Rattle.std.specs.Prelude.{◌≡◌, ℕ, zero, suc, ◌+◌, ◌*◌, ◌^◌, ◌≤◌, List, [], ◌∷◌, length, Bool, nat_lt, ◌==◌, if◌then◌else◌, MatchBool, Option, Some, IfSome, Result, Ok, Err}
use Rattle.jxlm_bits.specs.Bits.{bits_at, bytes_of, position_of}
use Rattle.jxlm_bits.specs.Decoding.{Found}
use Rattle.jxlm_bits.specs.ErrorKind as reading
use Rattle.jxlm_bits.specs.ErrorKind.{ErrorKind, Eof, ErrorAt, bitstream_kind, kind_of, UnlessMemory, UnlessNoMemory}
use Rattle.jxlm_bits.specs.declared.bits.Bitstream.{Bitstream}
use Rattle.jxlm_bits.specs.declared.bits.BitstreamError.{BitstreamError}
use Rattle.jxlm_bits.specs.declared.bits.U32Spec.{U32Spec}
use Rattle.jxlm_bits.specs.declared.bits.U32Spec.TheVariants.{Const, Offset}
use Rattle.jxlm_bits.specs.declared.error.Error.{Error}

-- A kind of field, over bytes and bit positions.
pub record Grammar (X : Type 0) : Type 1 where
  -- what is read at a position: the value and the position after it, or the first error and the reader's position then
  pub read : List ℕ → ℕ → Result (Found X) ErrorAt
  -- the value stands from the first position to the second, in any of its spellings
  pub Stands : List ℕ → ℕ → X → ℕ → Type 0

-- The two laws of a field: the bits before the reader code what it read; the reader reads what the bits code.
pub record IsExact {X : Type 0} (field : Grammar X) : Type 0 where
  pub read_stands : (bytes : List ℕ) (p : ℕ) (found : Found X) → field.read bytes p ≡ Ok found → field.Stands bytes p found.value found.position
  pub stands_read : (bytes : List ℕ) (p : ℕ) (x : X) (q : ℕ) → field.Stands bytes p x q → field.read bytes p ≡ Ok (record { value = x; position = q })

-- a reading whose error leaves the reader at p
abbrev pub undone : {X : Type 0} → ℕ → Result (Found X) ErrorAt → Result (Found X) ErrorAt
undone p (Ok found) = Ok found
undone p (Err e) = Err (record { error = e.error; position = Some p })

-- u(n): the number of n bits, which must all be there
abbrev pub number : ℕ → Grammar ℕ
number n = record {
  read = λ bytes p. if nat_lt (8 * length bytes) (p + n) then Err (record { error = Eof; position = Some p }) else Ok (record { value = bits_at bytes p n; position = p + n });
  Stands = λ bytes p v q. (p + n ≤ 8 * length bytes) × (v ≡ bits_at bytes p n) × (q ≡ p + n);
}

-- a value that takes no bits
abbrev pub give : {X : Type 0} → X → Grammar X
give x = record { read = λ bytes p. Ok (record { value = x; position = p }); Stands = λ bytes p y q. (y ≡ x) × (q ≡ p) }

-- a field without values: reading it returns this error
abbrev pub fail : {X : Type 0} → ErrorKind → Grammar X
fail error = record { read = λ bytes p. Err (record { error = error; position = Some p }); Stands = λ bytes p y q. ⊥ }

-- a value that takes no bits, or an error
abbrev pub from_result : {X : Type 0} → Result X ErrorKind → Grammar X
from_result (Ok x) = give x
from_result (Err error) = fail error

-- one field, and after it one that may depend on its value
infixl 10 ◌>>=◌
abbrev pub ◌>>=◌ : {X Y : Type 0} → Grammar X → (X → Grammar Y) → Grammar Y
◌>>=◌ {X} field next = record {
  read = λ bytes p. reading.◌>>=◌ (field.read bytes p) (λ found. (next found.value).read bytes found.position);
  Stands = λ bytes p y q. (x : X) × (m : ℕ) × field.Stands bytes p x m × (next x).Stands bytes m y q;
}

-- the first field where the test holds, else the second
abbrev pub either : {X : Type 0} → Bool → Grammar X → Grammar X → Grammar X
either b yes_field no_field = record {
  read = λ bytes p. if b then yes_field.read bytes p else no_field.read bytes p;
  Stands = λ bytes p x q. MatchBool b (yes_field.Stands bytes p x q) (no_field.Stands bytes p x q);
}

-- fields that are truncated together: an error leaves the reader before them all
abbrev pub whole : {X : Type 0} → Grammar X → Grammar X
whole field = record { read = λ bytes p. undone p (field.read bytes p); Stands = field.Stands }

-- n fields of one kind
abbrev pub repeated : {X : Type 0} → ℕ → Grammar X → Grammar (List X)
repeated zero field = give []
repeated (suc n) field = field >>= λ x. repeated n field >>= λ xs. give (x ∷ xs)

-- Bool
abbrev pub flag : Grammar Bool
flag = number 1 >>= λ bit. give (bit == 1)

-- a part of a U32: a constant, or n bits above a minimum
abbrev pub part : U32Spec → Grammar ℕ
part (Const n) = give n
part (Offset least n) = number n >>= λ v. give (least + v)

-- U32: two bits choose one of four parts; truncated, it leaves the reader before them
abbrev pub selected : U32Spec → U32Spec → U32Spec → U32Spec → Grammar ℕ
selected d0 d1 d2 d3 = do
  selector ← number 2
  either (selector == 0) (part d0) (either (selector == 1) (part d1) (either (selector == 2) (part d2) (part d3)))

abbrev pub u32 : U32Spec → U32Spec → U32Spec → U32Spec → Grammar ℕ
u32 d0 d1 d2 d3 = whole (selected d0 d1 d2 d3)

-- the maximum of a part is a 32-bit number
abbrev pub FitsU32 : U32Spec → Type 0
FitsU32 (Const n) = Unit {0}
FitsU32 (Offset least n) = (n ≤ 32) × (least + 2 ^ n ≤ 2 ^ 32)

-- the reading returns this error, and the reader is at q, unless that is the decoder's own matter
pub record IsErrorAt {Y : Type 0} (reading : Result Y ErrorAt) (error : ErrorKind) (q : ℕ) : Type 0 where
  pub place : Option ℕ
  pub refuses : reading ≡ Err (record { error = error; position = place })
  pub stands : IfSome place (λ p. q ≡ p)

-- What a call returned, seen by view, and where it left the reader, are what reading gives: its value, or an error of which
-- this holds.
abbrev pub Returns : {X Y E : Type 0} → (E → Result (Found Y) ErrorAt → ℕ → Type 0) → (X → Y) → Result X E → ℕ → Result (Found Y) ErrorAt → Type 0
Returns Fails view (Ok x) q reading = reading ≡ Ok (record { value = view x; position = q })
Returns Fails view (Err e) q reading = Fails e reading q

-- of a read: its error, with the reader where it is then
abbrev pub Reads : {X Y : Type 0} → (X → Y) → Result X BitstreamError → ℕ → Result (Found Y) ErrorAt → Type 0
Reads view result q reading = Returns (λ e reading q. reading ≡ Err (record { error = bitstream_kind e; position = Some q })) view result q reading

-- of a call that takes memory: its error, unless it is out of memory
abbrev pub Parses : {X Y : Type 0} → (X → Y) → Result X Error → ℕ → Result (Found Y) ErrorAt → Type 0
Parses view result q reading = Returns (λ e reading q. UnlessNoMemory (kind_of e) (IsErrorAt reading (kind_of e) q)) view result q reading

-- of a call with a decoder, whose errors are of these kinds: its error, unless it or the decoder is out of memory
abbrev pub ParsesBy : {X Y E : Type 0} → (E → ErrorKind) → (X → Y) → Result X E → ℕ → Result (Found Y) ErrorAt → Type 0
ParsesBy kind view result q reading = Returns (λ e reading q. UnlessMemory (kind e) (IsErrorAt reading (kind e) q)) view result q reading

-- The call read this field: by one of these, its value or its first error, and where the reader is after it, over the same
-- bytes.
pub record HasRead {X Y E : Type 0} (Gives : (X → Y) → Result X E → ℕ → Result (Found Y) ErrorAt → Type 0) (view : X → Y) (result : Result X E)
    (old new : Bitstream) (field : Grammar Y) : Type 0 where
  pub gives : Gives view result (position_of new) (field.read (bytes_of old) (position_of old))
  pub bytes : bytes_of new ≡ bytes_of old
