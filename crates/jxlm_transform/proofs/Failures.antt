-- Facts of errors other than out of memory.
use Rattle.std.proofs.Common.{◌≡◌, ℕ, List, Ok, Some, refl, false}
use Rattle.std.specs.Prelude.{codes, ◌==◌}
use Rattle.jxlm_bits.specs.ErrorKind.{ErrorKind, Eof, BadEnum, BadProfile, BadTree, NoGlobalTree, BadRct, BadPalette, BadSqueeze, OfDecoder, NoMemory, UnlessMemory, UnlessNoMemory}
use Rattle.jxlm_bits.specs.Grammar.{IsErrorAt, number}
use Rattle.jxlm_bits.specs.declared.decoder.DecoderError.TheVariants as decoder
use Rattle.jxlm_transform.specs.Transforms.{squeeze, transform_by}
use Rattle.jxlm_transform.specs.declared.param.PaletteTables.{PaletteTables}
use Rattle.jxlm_weighted.specs.declared.weights.WpHeader.{WpHeader}

-- a fact holds also where it is asked for unless it is out of memory
pub unless_no_memory : (error : ErrorKind) (P : Type 0) → P → UnlessNoMemory error P
unless_no_memory NoMemory P holds = tt
unless_no_memory Eof P holds = holds
unless_no_memory (BadEnum name value) P holds = holds
unless_no_memory (BadProfile text) P holds = holds
unless_no_memory BadTree P holds = holds
unless_no_memory NoGlobalTree P holds = holds
unless_no_memory BadRct P holds = holds
unless_no_memory BadPalette P holds = holds
unless_no_memory BadSqueeze P holds = holds
unless_no_memory (OfDecoder e) P holds = holds

-- and so does a fact that follows from one
pub unless_so : (error : ErrorKind) (P Q : Type 0) → (P → Q) → UnlessNoMemory error P → UnlessNoMemory error Q
unless_so NoMemory P Q step holds = tt
unless_so Eof P Q step holds = step holds
unless_so (BadEnum name value) P Q step holds = step holds
unless_so (BadProfile text) P Q step holds = step holds
unless_so BadTree P Q step holds = step holds
unless_so NoGlobalTree P Q step holds = step holds
unless_so BadRct P Q step holds = step holds
unless_so BadPalette P Q step holds = step holds
unless_so BadSqueeze P Q step holds = step holds
unless_so (OfDecoder e) P Q step holds = step holds

-- and where a decoder may be out of memory too
pub unless_memory : (error : ErrorKind) (P : Type 0) → UnlessNoMemory error P → UnlessMemory error P
unless_memory NoMemory P holds = tt
unless_memory Eof P holds = holds
unless_memory (BadEnum name value) P holds = holds
unless_memory (BadProfile text) P holds = holds
unless_memory BadTree P holds = holds
unless_memory NoGlobalTree P holds = holds
unless_memory BadRct P holds = holds
unless_memory BadPalette P holds = holds
unless_memory BadSqueeze P holds = holds
unless_memory (OfDecoder decoder.UnexpectedEof) P holds = holds
unless_memory (OfDecoder (decoder.Invalid code)) P holds = holds
unless_memory (OfDecoder decoder.OutOfMemory) P holds = tt

-- where a squeeze gives an error after its kind, so does the transform
pub squeeze_error : (tables : PaletteTables) (weights : WpHeader) (bytes : List ℕ) (p m q : ℕ) (error : ErrorKind) → (number 2).read bytes p ≡ Ok (record { value = 2; position = m }) →
    IsErrorAt (squeeze.read bytes m) error q → IsErrorAt ((transform_by tables weights).read bytes p) error q
squeeze_error tables weights bytes p m q error kind refused = record { place = refused.place; refuses = rw (kind, refused.refuses) refl; stands = refused.stands }

-- a kind above 2 has no meaning
pub kind_error : (tables : PaletteTables) (weights : WpHeader) (bytes : List ℕ) (p m k : ℕ) → (number 2).read bytes p ≡ Ok (record { value = k; position = m }) → (k == 0) ≡ false → (k == 1) ≡ false → (k == 2) ≡ false →
    IsErrorAt ((transform_by tables weights).read bytes p) (BadEnum (codes "TransformId") k) m
kind_error tables weights bytes p m k kind not0 not1 not2 = record { place = Some m; refuses = rw (kind, not0, not1, not2) refl; stands = refl }
