-- Why a picture that was encoded does not come back.
use Rattle.std.specs.Prelude.{ℕ, List}
use Rattle.jxl_picture.specs.declared.picture.Picture.{Picture}
use Rattle.jxl_encode.specs.Errors.{EncodeFails}
use Rattle.jxl_encode.specs.Files.{IsFileOf}
use Rattle.jxl_lossless_laws.specs.Errors.{IsOfSize}
use Rattle.jxl_encode_roundtrip.specs.declared.roundtrip.RoundTripError.{RoundTripError}
use Rattle.jxl_encode_roundtrip.specs.declared.roundtrip.RoundTripError.TheVariants.{Encode, Decode}

-- The picture is not encoded; or a file was written of it, as it is shown, and the decoder of that is out of memory, or refuses its size.
abbrev pub RoundTripFails : Picture → Picture → RoundTripError → Type 0
RoundTripFails picture shown (Encode error) = EncodeFails picture error
RoundTripFails picture shown (Decode error) = (file : List ℕ) × IsFileOf shown file × IsOfSize file error
