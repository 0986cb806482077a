-- The errors of the library, seen without where their texts lie.
use Rattle.std.specs.Prelude.{ℕ, List, Option, Result, Ok, Err}
use Rattle.jxlm_bits.specs.declared.bits.BitstreamError.{BitstreamError}
use Rattle.jxlm_bits.specs.declared.bits.BitstreamError.TheVariants as bitstream
use Rattle.jxlm_bits.specs.declared.decoder.DecoderError.{DecoderError}
use Rattle.jxlm_bits.specs.declared.decoder.DecoderError.TheVariants.{OutOfMemory}
use Rattle.jxlm_bits.specs.declared.error.Error.{Error}
use Rattle.jxlm_bits.specs.declared.error.Error.TheVariants as errors

-- truncated; a number without a meaning (its name and value), a limit (its text); of tree, transform, decoder, memory
pub data ErrorKind : Type 0 where
  Eof : ErrorKind
  BadEnum : List ℕ → ℕ → ErrorKind
  BadProfile : List ℕ → ErrorKind
  BadTree : ErrorKind
  NoGlobalTree : ErrorKind
  BadRct : ErrorKind
  BadPalette : ErrorKind
  BadSqueeze : ErrorKind
  OfDecoder : DecoderError → ErrorKind
  NoMemory : ErrorKind

-- the error of a read
abbrev pub bitstream_kind : BitstreamError → ErrorKind
bitstream_kind bitstream.UnexpectedEof = Eof
bitstream_kind (bitstream.InvalidEnum name value) = BadEnum name.now value
bitstream_kind (bitstream.ProfileConformance text) = BadProfile text.now

-- the error of a call
abbrev pub kind_of : Error → ErrorKind
kind_of errors.InvalidMaTree = BadTree
kind_of errors.GlobalMaTreeNotAvailable = NoGlobalTree
kind_of errors.InvalidRctParams = BadRct
kind_of errors.InvalidPaletteParams = BadPalette
kind_of errors.InvalidSqueezeParams = BadSqueeze
kind_of (errors.Bitstream e) = bitstream_kind e
kind_of (errors.Decoder e) = OfDecoder e
kind_of (errors.Buffer m) = NoMemory

-- the fact, unless it is out of memory, which a call without a decoder may return at any time
abbrev pub UnlessNoMemory : ErrorKind → Type 0 → Type 0
UnlessNoMemory NoMemory P = Unit {0}
UnlessNoMemory error P = P

-- the same of a call with a decoder, which may be out of memory too
abbrev pub UnlessMemory : ErrorKind → Type 0 → Type 0
UnlessMemory NoMemory P = Unit {0}
UnlessMemory (OfDecoder OutOfMemory) P = Unit {0}
UnlessMemory error P = P

-- an error, and the bit position of the reader then; none where that is the decoder's own matter
pub record ErrorAt : Type 0 where
  pub error : ErrorKind
  pub position : Option ℕ

-- what follows a result, unless that is an error
infixl 10 ◌>>=◌
abbrev pub ◌>>=◌ : {A B E : Type 0} → Result A E → (A → Result B E) → Result B E
(Ok x) >>= next = next x
(Err e) >>= next = Err e
