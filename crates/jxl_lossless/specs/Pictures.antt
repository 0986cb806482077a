-- What a file is decoded to (ISO/IEC 18181-1 and 18181-2).
use Rattle.std.specs.Prelude.{ℕ, ℤ, List, [], ◌∷◌, ◌++◌, Option, Ok, Err}
use Rattle.jxlm_base.specs.Grid.{Grid}
use Rattle.jxl_container.specs.Files.{HasCodestream, UnlessMemory}
use Rattle.jxl_image_header.specs.Images.{Image, image_of}
use Rattle.jxl_picture.specs.Orientations.{IsUpright}
use Rattle.jxl_picture.specs.declared.limits.Limits.{Limits}
use Rattle.jxl_picture.specs.declared.picture.Picture.{Picture}
use Rattle.jxl_coding.specs.Parse.{decoder_at}
use Rattle.jxl_coding.specs.Tokens.{entropy}
use Rattle.jxl_codestream.specs.Fronts.{FrameAt, FrontFails, FrontStands, HasProfile}
use Rattle.jxl_codestream.specs.FrontParts.{bytes_if}
use Rattle.jxl_lossless.specs.Saved.{AreDecoded, FramesFail}
use Rattle.jxl_lossless.specs.declared.error.FileError.{FileError}
use Rattle.jxl_lossless.specs.declared.error.FileError.TheVariants as errors

-- At the bits of a file's codestream stand headers and tables: of an image, of frames that are saved, and of the one shown.
pub record HasFront (limits : Limits) (file : List ℕ) : Type 0 where
  pub bytes : List ℕ
  pub found : HasCodestream file (Ok bytes)
  pub image : Image
  pub saved : List FrameAt
  pub shown : FrameAt
  pub stands : FrontStands (entropy decoder_at) limits bytes image saved shown

-- The picture of a file: the saved frames of its codestream are decoded, and its channels are those of the frame that is shown,
-- upright; its profile is that of the codestream. The steps in trees are counted from `before` to `after`.
pub record IsPictureOfFile (limits : Limits) (file : List ℕ) (picture : Picture) (before after : ℕ) : Type 0 where
  pub front : HasFront limits file
  pub coded : List (Grid ℤ)
  pub decoded : AreDecoded (entropy decoder_at) front.bytes front.image front.saved front.shown coded before after
  pub upright : IsUpright front.image coded (image_of picture.header) picture.channels.items
  pub profile : HasProfile (entropy decoder_at) limits front.bytes front.image (bytes_if picture.profile)

-- The profile of a file, if there is one: it is in the codestream, whatever the frames are.
pub record ProfileOfFile (limits : Limits) (file : List ℕ) (icc : Option (List ℕ)) : Type 0 where
  pub bytes : List ℕ
  pub found : HasCodestream file (Ok bytes)
  pub image : Image
  pub profile : HasProfile (entropy decoder_at) limits bytes image icc

-- A file is not decoded, by this error: of its boxes, of headers and tables, or of the first frame that has one.
abbrev pub FileFails : Limits → List ℕ → FileError → Type 0
FileFails limits file (errors.File e) = UnlessMemory e (HasCodestream file (Err e))
FileFails limits file (errors.Front e) = (bytes : List ℕ) × HasCodestream file (Ok bytes) × FrontFails (entropy decoder_at) limits bytes e
FileFails limits file e = (f : HasFront limits file) × FramesFail (entropy decoder_at) f.bytes f.image (f.saved ++ f.shown ∷ []) e
