-- What a call encodes, or why it does not.
use Rattle.std.specs.Prelude.{◌≡◌, ◌≢◌, ◌⊎◌, ◌<◌, ◌≤◌, ℕ, ℤ, List, [], ◌∷◌, ◌++◌, length, drop, false, Option, Some, None}
use Rattle.jxl_codestream.specs.FrontParts.{bytes_if}
use Rattle.jxl_image_header.specs.Images.{Image, image_of}
use Rattle.jxl_picture.specs.Pictures.{IsWhole}
use Rattle.jxl_picture.specs.declared.picture.Picture.{Picture}
use Rattle.jxl_encode.specs.Codable.{IsCodable}
use Rattle.jxl_encode.specs.Errors.{EncodeFails as FileFails}
use Rattle.jxl_encode.specs.Files.{IsFileOf}
use Rattle.jxl_encode.specs.declared.error.EncodeError.{EncodeError as FileError}
use Rattle.jxl_encode.specs.declared.error.EncodeError.TheVariants as causes
use Rattle.jxl_encode_ways.specs.declared.effort.Effort.{Effort}
use Rattle.jxl_encode_ways.specs.declared.effort.Effort.TheVariants.{Fast, Usual, Best}
use Rattle.jxl_c_picture.specs.Cells.{cells_of_all}
use Rattle.jxl_c_picture.specs.Channels.{sample_count}
use Rattle.jxl_c_picture.specs.Described.{IsDescribed}
use Rattle.jxl_c_picture.specs.Meanings.{has_meaning}
use Rattle.jxl_c_picture.specs.Narrow.{is_narrow}
use Rattle.jxl_c_picture.specs.declared.channels.CChannel.{CChannel}
use Rattle.jxl_c_picture.specs.declared.info.CInfo.{CInfo}
use Rattle.jxl_c.specs.declared.picture.EncodeError.{EncodeError}
use Rattle.jxl_c.specs.declared.picture.EncodeError.TheVariants as errors

-- the number of an effort
abbrev pub effort_number : Effort → ℕ
effort_number Fast = 0
effort_number Usual = 1
effort_number Best = 2

-- the profile of these bytes; there is none without a byte
abbrev pub profile_if : List ℕ → Option (List ℕ)
profile_if [] = None
profile_if (b ∷ bs) = Some (b ∷ bs)

module _ (info : CInfo) (extra : List CChannel) where
  -- The picture that a caller describes, with these samples and this profile.
  pub record IsPictureOf (samples : List ℤ) (profile : List ℕ) (picture : Picture) : Type 0 where
    pub described : IsDescribed info extra (image_of picture.header)
    pub narrow : picture.header.modular_16bit_buffers ≡ is_narrow info extra samples
    pub whole : IsWhole (image_of picture.header) picture.channels.items
    pub are : cells_of_all picture.channels.items ≡ samples
    pub icc : bytes_if picture.profile ≡ profile_if profile

  -- The file is decoded to such a picture.
  pub record IsEncodedOf (samples : List ℤ) (profile file : List ℕ) : Type 0 where
    pub picture : Picture
    pub described : IsPictureOf samples profile picture
    pub is : IsFileOf picture file

  -- The buffer begins with such a file, of this number of bytes, and is as it was after it.
  pub record HoldsFile (samples : List ℤ) (profile old new : List ℕ) (needed : ℕ) : Type 0 where
    pub file : List ℕ
    pub is : IsEncodedOf samples profile file
    pub long : needed ≡ length file
    pub room : needed ≤ length old
    pub holds : new ≡ file ++ drop needed old

  -- There is such a file, of this number of bytes, for which the buffer has no room.
  pub record NeedsRoom (samples : List ℤ) (profile : List ℕ) (room needed : ℕ) : Type 0 where
    pub file : List ℕ
    pub is : IsEncodedOf samples profile file
    pub long : needed ≡ length file
    pub short : room < needed

  -- The picture that a caller describes has another number of samples.
  pub record HasOtherSamples (count : ℕ) : Type 0 where
    pub image : Image
    pub described : IsDescribed info extra image
    pub other : count ≢ sample_count image

  -- one of the counts is not what the info and the extra channels say
  abbrev pub HasOtherCount : List ℤ → List ℕ → Type 0
  HasOtherCount samples profile = (length extra ≢ info.extra) ⊎ ((length profile ≢ info.profile) ⊎ HasOtherSamples (length samples))

  -- No file can hold the picture that a caller describes, whatever its samples are.
  pub record IsUncodable (profile : List ℕ) : Type 0 where
    pub picture : Picture
    pub described : IsDescribed info extra (image_of picture.header)
    pub icc : bytes_if picture.profile ≡ profile_if profile
    pub not : IsCodable picture → ⊥

  -- a number of the description names nothing, or no file can hold the picture
  abbrev pub IsRefused : List ℕ → Type 0
  IsRefused profile = (has_meaning info extra ≡ false) ⊎ IsUncodable profile

  -- The picture that a caller describes is too large.
  pub record IsTooLarge (samples : List ℤ) (profile : List ℕ) : Type 0 where
    pub picture : Picture
    pub described : IsPictureOf samples profile picture
    pub large : FileFails picture causes.TooLarge

  -- why a call encodes nothing
  abbrev pub EncodeFails : List ℤ → List ℕ → ℕ → EncodeError → Type 0
  EncodeFails samples profile effort errors.WrongCount = HasOtherCount samples profile
  EncodeFails samples profile effort errors.NotCodable = (2 < effort) ⊎ IsRefused profile
  EncodeFails samples profile effort errors.TooLarge = IsTooLarge samples profile
  EncodeFails samples profile effort errors.OutOfMemory = Unit {0}

-- the error of a call whose picture is not encoded, by this one
abbrev pub error_of : FileError → EncodeError
error_of causes.TooLarge = errors.TooLarge
error_of causes.OutOfMemory = errors.OutOfMemory

-- the status of such an error
abbrev pub status_of_encoding : EncodeError → ℕ
status_of_encoding errors.TooLarge = 5
status_of_encoding errors.OutOfMemory = 6
status_of_encoding errors.WrongCount = 7
status_of_encoding errors.NotCodable = 10

-- A call fails with this status, of an error that there is.
pub record EncodeFailsBy (info : CInfo) (extra : List CChannel) (samples : List ℤ) (profile : List ℕ) (effort status : ℕ) : Type 0 where
  pub error : EncodeError
  pub fails : EncodeFails info extra samples profile effort error
  pub is : status ≡ status_of_encoding error
