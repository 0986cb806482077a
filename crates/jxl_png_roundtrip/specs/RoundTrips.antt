-- Pictures that are written as PNG files, and read again (PNG, third edition).
use Rattle.std.specs.Prelude.{◌≡◌, ◌⊎◌, ℕ, ℤ, List, Option}
use Rattle.jxlm_base.specs.Grid.{Grid}
use Rattle.jxl_image_header.specs.Images.{Image}
use Rattle.jxl_picture.specs.declared.limits.Limits.{Limits}
use Rattle.jxl_png_read.specs.Files.{IsErrorOf}
use Rattle.jxl_png_read.specs.declared.error.ReadError.{ReadError}
use Rattle.jxl_png_read.specs.declared.error.ReadError.TheVariants.{OutOfMemory}
use Rattle.jxl_png_write.specs.Extras.{IsStreamOf}
use Rattle.jxl_png_write.specs.Headers.{png_channels}
use Rattle.jxl_png_write.specs.Pictures.{IsPngFileOf, png_image}

-- A picture with this profile and these Exif and XMP data, and what its file is read as: an image header with the same colours, by the
-- stream of the profile or by chunks; the channels of the file; and the same profile, Exif and XMP data.
pub record IsReadBack (image : Image) (channels : List (Grid ℤ)) (profile exif xmp : Option (List ℕ)) (read : Image) (grids : List (Grid ℤ)) (icc tiff text : Option (List ℕ)) : Type 0 where
  pub stream : Option (List ℕ)
  pub is_stream : IsStreamOf profile stream
  pub image_is : read ≡ png_image image stream
  pub channels_are : grids ≡ png_channels image channels
  pub profile_is : icc ≡ profile
  pub exif_is : tiff ≡ exif
  pub xmp_is : text ≡ xmp

-- The file of such a picture is refused by this error, within these limits; or memory is wanting.
abbrev pub FailsToReadBack : Limits → Image → List (Grid ℤ) → Option (List ℕ) → Option (List ℕ) → Option (List ℕ) → ReadError → Type 0
FailsToReadBack limits image channels profile exif xmp e =
    (e ≡ OutOfMemory) ⊎ ((bytes : List ℕ) × IsPngFileOf image channels profile exif xmp bytes × IsErrorOf limits bytes e)
