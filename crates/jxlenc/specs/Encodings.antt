-- What the program writes: the file of the picture that its input is.
use Rattle.std.specs.Prelude.{◌≡◌, ◌≢◌, ◌⊎◌, ◌≤◌, ◌^◌, ℕ, ℤ, List, [], ◌∷◌, ◌++◌, length, Bool, false, is_some, true, codes, IfSome, MatchBool, Option, Some, None}
use Rattle.std.specs.Option.{option_or}
use Rattle.std.specs.Io.KnownBytes.{Appends, Consumes, IsAtEnd}
use Rattle.std.specs.declared.io.Error.{Error}
use Rattle.jxl_codestream.specs.FrontParts.{bytes_if}
use Rattle.jxl_command.specs.Extras.{has_path, stream_of}
use Rattle.jxl_command.specs.Streams.{IsReadPart, IsReadWhole, is_closed}
use Rattle.jxl_command.specs.declared.extra.Extra.{Extra}
use Rattle.jxl_command.specs.declared.extra.Extras.{Extras}
use Rattle.jxl_container.specs.Metadata.{HasExif, HasXmp}
use Rattle.jxl_encode.specs.Errors.{EncodeFails}
use Rattle.jxl_encode.specs.Files.{IsCodingOf, IsWrittenFile}
use Rattle.jxl_encode.specs.Orientations.{image_with_orientation}
use Rattle.jxl_encode.specs.Profiles.{image_with_profile}
use Rattle.jxl_encode.specs.declared.error.EncodeError.TheVariants as errors
use Rattle.jxl_exif.specs.Orientations.{IsOrientationOf, IsUprightOf}
use Rattle.jxl_image_header.specs.Images.{Image, image_of}
use Rattle.jxl_netpbm.specs.Output.{AppendsBeginning}
use Rattle.jxl_netpbm_read.specs.Files.{IsErrorOf, IsNetpbmOf}
use Rattle.jxl_netpbm_read.specs.declared.error.NetpbmError.TheVariants as pictures
use Rattle.jxl_picture.specs.Pictures.{is_grey}
use Rattle.jxl_picture.specs.declared.limits.Limits.{Limits}
use Rattle.jxl_picture.specs.declared.picture.Picture.{Picture}
use Rattle.jxl_png_read.specs.Files.{IsErrorOf as IsPngErrorOf, IsPngOf}
use Rattle.jxl_png.specs.declared.error.PngError.TheVariants.{Signature}
use Rattle.jxl_png_read.specs.declared.error.ReadError.TheVariants.{Png}
use Rattle.jxlm_base.specs.Grid.{Grid}
use Rattle.jxlenc.specs.Failures.{failure_line, cause_of, is_of_output, is_silent, subject}
use Rattle.jxlenc.specs.Profiles.{Describes, ProfileErrs}
use Rattle.jxlenc.specs.declared.failures.Failure.{Failure}
use Rattle.jxlenc.specs.declared.failures.Failure.TheVariants as failures
use Rattle.jxlenc.specs.declared.options.Options.{Options}
use Rattle.jxlenc.specs.declared.profile.ProfileError.{ProfileError}
use Rattle.jxlenc.specs.declared.run.Metadata.{Metadata}

-- the header of a picture that gets this profile, if there is one
abbrev pub image_with : Option (List ℕ) → Image → Image
image_with (Some icc) image = image_with_profile image
image_with None image = image

-- The input is a PNG file of this picture, with this profile and these Exif and XMP data; or a netpbm file, which has none of these.
abbrev pub IsSource : List ℕ → Image → List (Grid ℤ) → Option (List ℕ) → Option (List ℕ) → Option (List ℕ) → Type 0
IsSource input image channels icc exif xmp =
    IsPngOf input image channels icc exif xmp ⊎ (IsNetpbmOf input image channels × (icc ≡ None) × (exif ≡ None) × (xmp ≡ None))

-- The input is a file of this picture and of these Exif and XMP data; the picture has this orientation, and this profile, if there is one, in
-- place of its own: one that describes its colours.
pub record IsPictureOf (input : List ℕ) (icc : Option (List ℕ)) (orientation : ℕ) (picture : Picture) (exif xmp : Option (List ℕ)) : Type 0 where
  pub image : Image
  pub own : Option (List ℕ)
  pub source : IsSource input image picture.channels.items own exif xmp
  pub header : image_of picture.header ≡ image_with icc (image_with_orientation orientation image)
  pub profile : bytes_if picture.profile ≡ option_or icc own
  pub describes : IfSome icc (Describes (is_grey image))

-- what precedes the TIFF header in a JPEG file: `Exif` and two zeros
abbrev pub exif_head : List ℕ
exif_head = codes "Exif" ++ (0 ∷ 0 ∷ [])

-- these are the Exif data from the TIFF header on
abbrev pub IsTiffOf : List ℕ → List ℕ → Type 0
IsTiffOf exif tiff = (exif ≡ exif_head ++ tiff) ⊎ (((rest : List ℕ) → exif ≢ exif_head ++ rest) × (tiff ≡ exif))

-- the Exif data, from the TIFF header on, say this orientation; what is kept of them says 1
pub record KeepsUpright (exif : List ℕ) (n : ℕ) (kept : Option (List ℕ)) : Type 0 where
  pub tiff : List ℕ
  pub begins : IsTiffOf exif tiff
  pub says : IsOrientationOf tiff n
  pub bytes : List ℕ
  pub upright : IsUprightOf tiff bytes
  pub are : kept ≡ Some bytes

-- These Exif data say this orientation, 1 if there are none; what is kept of them says 1.
abbrev pub IsOrientedBy : Option (List ℕ) → ℕ → Option (List ℕ) → Type 0
IsOrientedBy (Some exif) n kept = KeepsUpright exif n kept
IsOrientedBy None n kept = (n ≡ 1) × (kept ≡ None)

-- The bytes are a file that is decoded to what this picture shows: in boxes, if they are asked for or needed, with these Exif and XMP data.
pub record IsEncodingOf (picture : Picture) (boxed : Bool) (exif xmp : Option (List ℕ)) (file : List ℕ) : Type 0 where
  pub decoded : IsCodingOf picture file
  pub written : IsWrittenFile picture boxed exif xmp file
  pub exif_kept : IfSome exif (λ bytes. HasExif file (Some bytes))
  pub xmp_kept : IfSome xmp (λ bytes. HasXmp file (Some bytes))

-- If these data are wanted, they were read to their end, from left to rest; else nothing of them was read.
abbrev pub IsGiven : Bool → Option (List ℕ) → Option (List ℕ) → Type 0 → Option (List ℕ) → Type 0
IsGiven wanted left rest Stays given =
    MatchBool wanted ((bytes : List ℕ) × Consumes left rest bytes × IsAtEnd rest × (given ≡ Some bytes)) (Stays × (given ≡ None))

-- The profile, the Exif data and the XMP data that the options name were read, each to its end: left says what a reader has left.
pub record AreGiven {F : Type 0} (left : F → Option (List ℕ)) (options : Options) (old new : Extras F) (metadata : Metadata) : Type 0 where
  pub profile : IsGiven (is_some options.paths.icc) (left old.profile) (left new.profile) (new.profile ≡ old.profile) (bytes_if metadata.profile)
  pub exif : IsGiven (is_some options.paths.exif) (left old.exif) (left new.exif) (new.exif ≡ old.exif) (bytes_if metadata.exif)
  pub xmp : IsGiven (is_some options.paths.xmp) (left old.xmp) (left new.xmp) (new.xmp ≡ old.xmp) (bytes_if metadata.xmp)

-- The picture is that of this input with the data for the file beside it that were read, in place of its own; it has the orientation
-- that the Exif data say, and these are kept for an upright one.
pub record IsAsked (Given : Metadata → Type 0) (input : List ℕ) (picture : Picture) (kept kept_xmp : Option (List ℕ)) : Type 0 where
  pub metadata : Metadata
  pub given : Given metadata
  pub exif : Option (List ℕ)
  pub xmp : Option (List ℕ)
  pub orientation : ℕ
  pub oriented : IsOrientedBy (option_or (bytes_if metadata.exif) exif) orientation kept
  pub pictured : IsPictureOf input (bytes_if metadata.profile) orientation picture exif xmp
  pub xmp_is : kept_xmp ≡ option_or (bytes_if metadata.xmp) xmp

-- The input was read, from left to rest, to its end or 65,536 bytes of it and more; and what was read has this property.
pub record IsReadEnough (left rest : Option (List ℕ)) (holds : List ℕ → Type 0) : Type 0 where
  pub file : List ℕ
  pub read : Consumes left rest file
  pub ended : IsAtEnd rest ⊎ (2 ^ 16 ≤ length file)
  pub is : holds file

-- The bytes are the file of the picture that is asked for, by the input that was read, from left to rest.
pub record IsMade (boxed : Bool) (left rest : Option (List ℕ)) (Given : Metadata → Type 0) (file : List ℕ) : Type 0 where
  pub picture : Picture
  pub kept : Option (List ℕ)
  pub xmp : Option (List ℕ)
  pub asked : IsReadEnough left rest (λ input. IsAsked Given input picture kept xmp)
  pub encoded : IsEncodingOf picture boxed kept xmp file

-- Such a file was written: the output, which held `held`, holds it after that.
pub record IsDone (boxed : Bool) (left rest : Option (List ℕ)) (Given : Metadata → Type 0) (held holds : Option (List ℕ)) : Type 0 where
  pub file : List ℕ
  pub made : IsMade boxed left rest Given file
  pub written : Appends held holds file

-- A beginning of such a file was written.
pub record IsBegun (boxed : Bool) (left rest : Option (List ℕ)) (Given : Metadata → Type 0) (held holds : Option (List ℕ)) : Type 0 where
  pub file : List ℕ
  pub made : IsMade boxed left rest Given file
  pub begun : AppendsBeginning held holds file

-- the limits of PNG files that are read: those that the decoder of .jxl files has by default
abbrev pub usual_limits : Limits
usual_limits = record { pixels = 2 ^ 28; channels = 256; bytes = 2 ^ 31; profile = 2 ^ 24; decisions = 128; codewords = 2 ^ 26 }

-- what each failure says of an input whose picture is not encoded: one without the signature of PNG files has an error of netpbm files
abbrev pub PictureFails : List ℕ → Failure → Type 0
PictureFails input (failures.Picture error) = IsPngErrorOf usual_limits input (Png Signature) × IsErrorOf input error
PictureFails input (failures.Png error) = IsPngErrorOf usual_limits input error
PictureFails input failure = ⊥

-- what each failure says of a profile, if there is one: a file of this picture does not get it
abbrev pub ProfileFails : Image → Option (List ℕ) → Failure → Type 0
ProfileFails image icc (failures.Profile error) = (bytes : List ℕ) × (icc ≡ Some bytes) × ProfileErrs (is_grey image) bytes error
ProfileFails image icc failure = ⊥

-- a profile was read that a file of the input's picture does not get
pub record IsProfileRefused (Given : Metadata → Type 0) (error : ProfileError) (input : List ℕ) : Type 0 where
  pub metadata : Metadata
  pub given : Given metadata
  pub image : Image
  pub channels : List (Grid ℤ)
  pub own : Option (List ℕ)
  pub exif : Option (List ℕ)
  pub xmp : Option (List ℕ)
  pub source : IsSource input image channels own exif xmp
  pub refused : ProfileFails image (bytes_if metadata.profile) (failures.Profile error)

-- what each failure says of a picture that is not encoded
abbrev pub EncodingFails : Picture → Failure → Type 0
EncodingFails picture failures.TooLarge = EncodeFails picture errors.TooLarge
EncodingFails picture failures.OutOfMemory = Unit {0}
EncodingFails picture failure = ⊥

-- the picture that is asked for is too large
pub record IsLargeAsked (Given : Metadata → Type 0) (input : List ℕ) : Type 0 where
  pub picture : Picture
  pub kept : Option (List ℕ)
  pub xmp : Option (List ℕ)
  pub asked : IsAsked Given input picture kept xmp
  pub large : EncodingFails picture failures.TooLarge

-- these data are asked for, and reading their stream fails by this error
abbrev pub ExtraFails : {F : Type 0} → (F → Error → Type 0) → Options → Extras F → Extra → Error → Type 0
ExtraFails fails options streams extra error = (has_path options.paths extra ≡ true) × fails (stream_of streams extra) error

-- what each failure says of the input, from left to rest, of which no picture is read: reading it fails; or it begins as no file that is
-- read; or it was read to its end
abbrev pub ReadingFails : (Error → Type 0) → Option (List ℕ) → Option (List ℕ) → Failure → Type 0
ReadingFails Unread left rest (failures.Unreadable error) = Unread error × IsReadPart left rest
ReadingFails Unread left rest (failures.Picture pictures.Magic) = IsReadEnough left rest (λ input. PictureFails input (failures.Picture pictures.Magic))
ReadingFails Unread left rest failure = IsReadWhole left rest (λ input. PictureFails input failure)

-- what each failure says of the input, from left to rest, and of the data beside it, before the output is written
abbrev pub MakingFails : (Error → Type 0) → (Extra → Error → Type 0) → Option (List ℕ) → Option (List ℕ) → (Metadata → Type 0) → Failure → Type 0
MakingFails Unread UnreadExtra left rest Given (failures.ExtraUnreadable extra error) = IsReadEnough left rest (λ input. UnreadExtra extra error)
MakingFails Unread UnreadExtra left rest Given (failures.Profile error) = IsReadEnough left rest (IsProfileRefused Given error)
MakingFails Unread UnreadExtra left rest Given failures.TooLarge = IsReadEnough left rest (IsLargeAsked Given)
MakingFails Unread UnreadExtra left rest Given failures.OutOfMemory = Unit {0}
MakingFails Unread UnreadExtra left rest Given failure = ReadingFails Unread left rest failure

-- what each failure says of the input and of the output, which held `held`: a file was made before the output was written, and the
-- output holds a beginning of that
abbrev pub InputFails : (Error → Type 0) → (Extra → Error → Type 0) → Bool → Option (List ℕ) → Option (List ℕ) → (Metadata → Type 0) → Option (List ℕ) → Option (List ℕ) → Failure → Type 0
InputFails Unread UnreadExtra boxed left rest Given held holds (failures.Unwritable error) = IsBegun boxed left rest Given held holds × (is_closed error ≡ false)
InputFails Unread UnreadExtra boxed left rest Given held holds failures.Closed = IsBegun boxed left rest Given held holds
InputFails Unread UnreadExtra boxed left rest Given held holds failure = MakingFails Unread UnreadExtra left rest Given failure

-- standard error gets the line of a failure about what has this name; of a closed pipe nothing is said
abbrev pub Reports : List ℕ → Failure → Type 0 → (Option Error → List ℕ → Type 0) → Type 0
Reports name failure Silent Gets = MatchBool (is_silent failure) Silent (Gets (cause_of failure) (failure_line name failure))

-- The picture is not encoded, by this failure; the output stays as it was, unless it is what fails; standard error gets the line of
-- the failure, about what fails.
pub record IsFailed (options : Options) (Fails : Failure → Type 0) (Stays Silent : Type 0) (Gets : Option Error → List ℕ → Type 0) : Type 0 where
  pub failure : Failure
  pub why : Fails failure
  pub kept : is_of_output failure ≡ false → Stays
  pub reports : Reports (subject options failure) failure Silent Gets
