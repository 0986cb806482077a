-- Why a call encodes nothing, by the error of its picture.
use Rattle.std.proofs.Common.{◌≡◌, ℕ, ℤ, List, sym, subst}
use Rattle.jxl_picture.specs.declared.picture.Picture.{Picture}
use Rattle.jxl_encode.specs.Errors.{EncodeFails as FileFails}
use Rattle.jxl_encode.specs.declared.error.EncodeError.{EncodeError as FileError}
use Rattle.jxl_encode.specs.declared.error.EncodeError.TheVariants as causes
use Rattle.jxl_c_picture.specs.declared.channels.CChannel.{CChannel}
use Rattle.jxl_c_picture.specs.declared.info.CInfo.{CInfo}
use Rattle.jxl_c.specs.Encoded.{EncodeFails, IsPictureOf, error_of}
use Rattle.jxl_c.specs.declared.picture.EncodeError.{EncodeError}

module _ (info : CInfo) (extra : List CChannel) (samples : List ℤ) (profile : List ℕ) (effort : ℕ) (picture : Picture) (described : IsPictureOf info extra samples profile picture) where
  by_cause : (cause : FileError) → FileFails picture cause → EncodeFails info extra samples profile effort (error_of cause)
  by_cause causes.TooLarge f = record { picture = picture; described = described; large = f }
  by_cause causes.OutOfMemory f = tt

  pub fails_by_cause : (cause : FileError) (error : EncodeError) → error ≡ error_of cause → FileFails picture cause → EncodeFails info extra samples profile effort error
  fails_by_cause cause error is f = subst (λ (e : EncodeError). EncodeFails info extra samples profile effort e) (sym is) (by_cause cause f)
