-- What holds also holds unless it is out of memory.
use Rattle.std.proofs.Common.{◌≡◌, ◌⊎◌, inl, inr, sym, subst}
use Rattle.jxlm_bits.specs.ErrorKind.{ErrorKind, Eof, BadEnum, BadProfile, BadTree, NoGlobalTree, BadRct, BadPalette, BadSqueeze, OfDecoder, NoMemory, UnlessMemory}
use Rattle.jxlm_bits.specs.declared.decoder.DecoderError.TheVariants.{UnexpectedEof, Invalid, OutOfMemory}

-- a fact leads to another one
pub unless_so : (error : ErrorKind) {P Q : Type 0} → (P → Q) → UnlessMemory error P → UnlessMemory error Q
unless_so Eof f h = f h
unless_so (BadEnum name value) f h = f h
unless_so (BadProfile text) f h = f h
unless_so BadTree f h = f h
unless_so NoGlobalTree f h = f h
unless_so BadRct f h = f h
unless_so BadPalette f h = f h
unless_so BadSqueeze f h = f h
unless_so (OfDecoder UnexpectedEof) f h = f h
unless_so (OfDecoder (Invalid k)) f h = f h
unless_so (OfDecoder OutOfMemory) f h = tt
unless_so NoMemory f h = tt

pub always_so : (error : ErrorKind) {P : Type 0} → P → UnlessMemory error P
always_so Eof h = h
always_so (BadEnum name value) h = h
always_so (BadProfile text) h = h
always_so BadTree h = h
always_so NoGlobalTree h = h
always_so BadRct h = h
always_so BadPalette h = h
always_so BadSqueeze h = h
always_so (OfDecoder UnexpectedEof) h = h
always_so (OfDecoder (Invalid k)) h = h
always_so (OfDecoder OutOfMemory) h = tt
always_so NoMemory h = tt

-- a fact leads to another one, out of memory aside
pub or_so : {M P Q : Type 0} → (P → Q) → M ⊎ P → M ⊎ Q
or_so f (inl m) = inl m
or_so f (inr h) = inr (f h)

-- out of memory by this crate's own lists and nodes is out of memory
pub own_so : (error : ErrorKind) {P Q : Type 0} → (P → Q) → (error ≡ NoMemory) ⊎ P → UnlessMemory error Q
own_so error {Q = Q} f (inl m) = subst (λ (e : ErrorKind). UnlessMemory e Q) (sym m) tt
own_so error f (inr h) = always_so error (f h)
