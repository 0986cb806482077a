-- Facts of errors other than out of memory.
use Rattle.std.proofs.Common.{ℕ, Result, refl}
use Rattle.jxlm_bits.specs.Decoding.{Found}
use Rattle.jxlm_bits.specs.Grammar.{IsErrorAt}
use Rattle.jxlm_bits.specs.ErrorKind.{ErrorKind, Eof, BadEnum, BadProfile, BadTree, NoGlobalTree, BadRct, BadPalette, BadSqueeze, OfDecoder, NoMemory, UnlessNoMemory, ErrorAt, ◌>>=◌}

-- a fact holds also where it is asked for unless it is out of memory
pub unless_no_memory : (error : ErrorKind) (P : Type 0) → P → UnlessNoMemory error P
unless_no_memory NoMemory P holds = tt
unless_no_memory Eof P holds = holds
unless_no_memory (BadEnum name value) P holds = holds
unless_no_memory (BadProfile text) P holds = holds
unless_no_memory BadTree P holds = holds
unless_no_memory NoGlobalTree P holds = holds
unless_no_memory BadRct P holds = holds
unless_no_memory BadPalette P holds = holds
unless_no_memory BadSqueeze P holds = holds
unless_no_memory (OfDecoder e) P holds = holds

-- and so does a fact that follows from one
pub unless_so : (error : ErrorKind) (P Q : Type 0) → (P → Q) → UnlessNoMemory error P → UnlessNoMemory error Q
unless_so NoMemory P Q step holds = tt
unless_so Eof P Q step holds = step holds
unless_so (BadEnum name value) P Q step holds = step holds
unless_so (BadProfile text) P Q step holds = step holds
unless_so BadTree P Q step holds = step holds
unless_so NoGlobalTree P Q step holds = step holds
unless_so BadRct P Q step holds = step holds
unless_so BadPalette P Q step holds = step holds
unless_so BadSqueeze P Q step holds = step holds
unless_so (OfDecoder e) P Q step holds = step holds

-- where a field is not read, neither is what begins with it
pub fails_first : {X Y : Type 0} (r : Result (Found X) ErrorAt) (next : Found X → Result (Found Y) ErrorAt) (error : ErrorKind) (q : ℕ) →
    UnlessNoMemory error (IsErrorAt r error q) → UnlessNoMemory error (IsErrorAt (r >>= next) error q)
fails_first r next error q refused =
    unless_so error (IsErrorAt r error q) (IsErrorAt (r >>= next) error q) (λ f. record { place = f.place; refuses = rw f.refuses refl; stands = f.stands }) refused
