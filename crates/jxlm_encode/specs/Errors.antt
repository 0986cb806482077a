-- Errors that are not for want of memory.
use Rattle.std.specs.Prelude.{◌≡◌}
use Rattle.jxlm_bits.specs.ErrorKind.{ErrorKind, OfDecoder, NoMemory}
use Rattle.jxlm_bits.specs.declared.decoder.DecoderError.TheVariants.{OutOfMemory}

-- the error is another than out of memory, of the library or of its decoder
pub record IsNotMemory (e : ErrorKind) : Type 0 where
  pub own : e ≡ NoMemory → ⊥
  pub decoder : e ≡ OfDecoder OutOfMemory → ⊥
