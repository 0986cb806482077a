-- What the file of a picture is read as.
use Rattle.std.specs.Prelude.{◌≡◌, ℕ, ℤ, List, Option}
use Rattle.std.proofs.Common.{inl, inr}
use Rattle.jxlm_base.specs.Grid.{Grid}
use Rattle.jxl_image_header.specs.Images.{Image}
use Rattle.jxl_picture.specs.declared.limits.Limits.{Limits}
use Rattle.jxl_png_read.specs.Files.{HasOnePicture, IsErrorOf, IsPngOf}
use Rattle.jxl_png_read.specs.declared.error.ReadError.{ReadError}
use Rattle.jxl_png_read.specs.declared.error.ReadError.TheVariants.{OutOfMemory}
use Rattle.jxl_png_roundtrip.specs.RoundTrips.{FailsToReadBack, IsReadBack}
use Rattle.jxl_png_write.specs.Headers.{png_channels}
use Rattle.jxl_png_write.specs.Pictures.{IsPngFileOf, png_image}

module _ (image : Image) (channels : List (Grid ℤ)) (profile exif xmp : Option (List ℕ)) (bytes : List ℕ) (written : IsPngFileOf image channels profile exif xmp bytes) where
  pub read_back : (read : Image) (grids : List (Grid ℤ)) (icc tiff text : Option (List ℕ)) → ((file : List ℕ) → HasOnePicture file) → IsPngOf bytes read grids icc tiff text →
      IsReadBack image channels profile exif xmp read grids icc tiff text
  read_back read grids icc tiff text one is =
      let same = one bytes read (png_image image written.stream) grids (png_channels image channels) icc profile tiff exif text xmp is written.read in
      record {
        stream = written.stream;
        is_stream = written.is_stream;
        image_is = same.0;
        channels_are = same.1;
        profile_is = same.2;
        exif_is = same.3;
        xmp_is = same.4;
      }

  pub read_fails : (limits : Limits) (e : ReadError) → IsErrorOf limits bytes e → FailsToReadBack limits image channels profile exif xmp e
  read_fails limits e fails = inr (bytes, written, fails)

pub write_fails : (limits : Limits) (image : Image) (channels : List (Grid ℤ)) (profile exif xmp : Option (List ℕ)) (e : ReadError) → e ≡ OutOfMemory →
    FailsToReadBack limits image channels profile exif xmp e
write_fails limits image channels profile exif xmp e memory = inl memory
