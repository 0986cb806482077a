-- A file that was read up to the sections of its frames (ISO/IEC 18181-1 and 18181-2).
use Rattle.std.specs.Prelude.{◌≡◌, ℕ, List, Bool, true, false, Option, Some, None, Result, Ok, Err}
use Rattle.std.specs.Option.{option_copied}
use Rattle.jxl_coding.specs.Parse.{decoder_at}
use Rattle.jxl_coding.specs.Tokens.{entropy}
use Rattle.jxl_container.specs.declared.error.FileError.{FileError as BoxError}
use Rattle.jxl_container.specs.Files.{HasCodestream, HasLaterError, stream_of}
use Rattle.jxl_container.specs.Metadata.{HasExif, HasXmp}
use Rattle.jxl_image_header.specs.Images.{Image}
use Rattle.jxl_image_header.specs.declared.image.ImageHeader.{ImageHeader}
use Rattle.jxl_codestream.specs.FrontParts.{IsFrontOf, IsReady, bytes_if, is_of_header}
use Rattle.jxl_codestream.specs.declared.error.FrontError.{FrontError}
use Rattle.jxl_codestream.specs.declared.front.Frames.{Frames}
use Rattle.jxl_picture.specs.Orientations.{shown_size}
use Rattle.jxl_picture.specs.declared.limits.Limits.{Limits}
use Rattle.jxl_lossless.specs.declared.error.FileError.{FileError}
use Rattle.jxl_lossless.specs.declared.error.FileError.TheVariants as errors
use Rattle.jxl_lossless.specs.declared.file.JxlFile.{JxlFile}

-- This is what a file has before the sections of its frames: its codestream, and the error after it, if there is one; Exif and
-- XMP data; and of the codestream the image header, the profile and the frames, or why these are not decoded.
pub record IsReadOf (limits : Limits) (file : List ℕ) (read : JxlFile) : Type 0 where
  pub found : HasCodestream file (Ok (stream_of read.stream))
  pub later : HasLaterError file read.later_error
  pub exif : HasExif file (option_copied read.exif)
  pub xmp : HasXmp file (option_copied read.xmp)
  pub front : IsFrontOf (entropy decoder_at) limits (stream_of read.stream) read.front

-- the frames of a file that was read can be decoded, if they were read
abbrev pub IsReadyFile : JxlFile → Type 0
IsReadyFile read = (frames : Frames) → read.front.frames ≡ Ok frames → IsReady (stream_of read.stream) read.front.image frames

-- the image header of a file that was read
abbrev pub header_of : JxlFile → ImageHeader
header_of read = read.front.image

-- the error, where there is one
abbrev pub error_of : Result Frames FrontError → Option FrontError
error_of (Ok frames) = None
error_of (Err error) = Some error

-- why its frames are not decoded, where there is a reason before their sections
abbrev pub reason_of : JxlFile → Option FrontError
reason_of read = error_of read.front.frames

-- its profile, if it has one and its frames are decoded
abbrev pub profile_of : JxlFile → Option (List ℕ)
profile_of read = bytes_if read.front.profile

-- its Exif data and its XMP data, if it has them
abbrev pub exif_of : JxlFile → Option (List ℕ)
exif_of read = option_copied read.exif

abbrev pub xmp_of : JxlFile → Option (List ℕ)
xmp_of read = option_copied read.xmp

-- the first error of its boxes after the codestream, if there is one
abbrev pub later_error_of : JxlFile → Option BoxError
later_error_of read = read.later_error

-- the error comes before the frames: it is one of the boxes or of the image header
abbrev pub is_before_frames : FileError → Bool
is_before_frames (errors.File error) = true
is_before_frames (errors.Front error) = is_of_header error
is_before_frames error = false

-- the header of a picture as it is shown: with the sides of what is shown, and orientation 1
abbrev pub upright : Image → Image
upright coded = record coded { size = shown_size coded.orientation coded.size; orientation = 1 }
