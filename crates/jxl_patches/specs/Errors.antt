-- Why no patches are read.
use Rattle.std.specs.Prelude.{codes}
use Rattle.jxlm_bits.specs.ErrorKind.{ErrorKind, BadEnum, BadProfile, OfDecoder, NoMemory}
use Rattle.jxl_patches.specs.declared.error.PatchError.{PatchError}
use Rattle.jxl_patches.specs.declared.error.PatchError.TheVariants as errors

-- the error as one of fields; no two errors have the same
abbrev pub patch_kind : PatchError → ErrorKind
patch_kind (errors.Invalid name value) = BadEnum name.now value
patch_kind (errors.Decoder e) = OfDecoder e
patch_kind errors.TooLarge = BadProfile (codes "patches of too many cells")
patch_kind errors.OutOfMemory = NoMemory
