-- What an encoder makes of a picture: a file that is decoded to it (ISO/IEC 18181-1 and 18181-2).
use Rattle.std.specs.Prelude.{◌≡◌, ◌≤◌, ◌^◌, ◌*◌, ◌||◌, nat_lt, not, ℕ, List, length, Bool, false, if◌then◌else◌, MatchBool, Option, Some, None, is_some, IfSome, Ok}
use Rattle.std.specs.List.{list_any}
use Rattle.jxl_codestream.specs.FrontParts.{bytes_if}
use Rattle.jxl_container.specs.Files.{HasCodestream}
use Rattle.jxl_container_write.specs.Containers.{HasBoxes, boxes_of}
use Rattle.jxl_container_write.specs.declared.container.Level.{Level}
use Rattle.jxl_container_write.specs.declared.container.Level.TheVariants.{Five, Ten}
use Rattle.jxl_image_header.specs.Channels.{is_black}
use Rattle.jxl_image_header.specs.Images.{Image, image_of}
use Rattle.jxl_image_header.specs.declared.channel.ExtraChannel.{ExtraChannel}
use Rattle.jxl_image_header.specs.declared.size.Size.{Size}
use Rattle.jxl_picture.specs.Limits.{Allow}
use Rattle.jxl_picture.specs.Orientations.{IsUpright}
use Rattle.jxl_picture.specs.declared.limits.Limits.{Limits}
use Rattle.jxl_picture.specs.declared.picture.Picture.{Picture}
use Rattle.jxl_lossless.specs.Pictures.{IsPictureOfFile}
use Rattle.jxl_profile_write.specs.Profiles.{AllowProfile}

-- The limits allow a picture and its profile, if there is one, and at least as many decisions for a sample, and as many codewords
-- of sections' own codes, as by default.
pub record AllowFile (limits : Limits) (image : Image) (icc : Option (List ℕ)) : Type 0 where
  pub picture : Allow limits image
  pub profile : IfSome icc (AllowProfile limits.profile)
  pub decisions : 128 ≤ limits.decisions
  pub codewords : 2 ^ 26 ≤ limits.codewords

-- The file is decoded to this picture, within all limits that allow it, from whatever count of steps on.
abbrev pub IsFileOf : Picture → List ℕ → Type 0
IsFileOf picture file = (limits : Limits) → AllowFile limits (image_of picture.header) (bytes_if picture.profile) → (before : ℕ) → (after : ℕ) × IsPictureOfFile limits file picture before after

-- The second picture is the first one as its header shows it: upright, with the same profile.
pub record IsShownAs (picture shown : Picture) : Type 0 where
  pub upright : IsUpright (image_of picture.header) picture.channels.items (image_of shown.header) shown.channels.items
  pub profile : bytes_if shown.profile ≡ bytes_if picture.profile

-- The file is decoded to each picture that shows this one; to this one itself, if it is upright.
pub record IsCodingOf (picture : Picture) (file : List ℕ) : Type 0 where
  pub shown : (shown : Picture) → IsShownAs picture shown → IsFileOf shown file
  pub upright : picture.header.orientation ≡ 1 → IsFileOf picture file

-- The bytes are a codestream of this picture: they are a file by themselves, and each file with this codestream is one of it.
pub record IsCodestreamOf (picture : Picture) (bytes : List ℕ) : Type 0 where
  pub bare : HasCodestream bytes (Ok bytes)
  pub file : (file : List ℕ) → HasCodestream file (Ok bytes) → IsCodingOf picture file

-- an extra channel that level 5 does not hold: black, or of more than 16 bits
abbrev pub is_deep : ExtraChannel → Bool
is_deep c = is_black c.kind || nat_lt 16 c.bit_depth.bits_per_sample

-- a size that level 5 does not hold
abbrev pub is_large : Size → Bool
is_large size = nat_lt (2 ^ 18) size.width || nat_lt (2 ^ 18) size.height || nat_lt (2 ^ 28) (size.width * size.height)

-- a profile that level 5 does not hold
abbrev pub is_long : Option (List ℕ) → Bool
is_long (Some icc) = nat_lt (2 ^ 22) (length icc)
is_long None = false

-- A picture that level 5 does not hold (ISO/IEC 18181-1, profiles and levels): by its depth, its extra channels or its profile, or
-- too large.
abbrev pub is_beyond_five : Image → Option (List ℕ) → Bool
is_beyond_five image icc =
    not image.modular_16bit_buffers || nat_lt 16 image.bit_depth.bits_per_sample || nat_lt 4 (length image.ec_info) || list_any is_deep image.ec_info || is_large image.size ||
    is_long icc

-- the level of a picture with this profile, if it has one
abbrev pub level_of : Image → Option (List ℕ) → Level
level_of image icc = if is_beyond_five image icc then Ten else Five

-- a file of a picture is in boxes: it is to be, it needs level 10, or there are Exif or XMP data
abbrev pub is_boxed : Image → Option (List ℕ) → Bool → Option (List ℕ) → Option (List ℕ) → Bool
is_boxed image icc boxed exif xmp = boxed || is_beyond_five image icc || is_some exif || is_some xmp

-- The file is a codestream of this picture, or boxes with one, at the picture's level and with these Exif and XMP data.
abbrev pub IsWrittenFile : Picture → Bool → Option (List ℕ) → Option (List ℕ) → List ℕ → Type 0
IsWrittenFile picture boxed exif xmp file = (codestream : List ℕ) × IsCodestreamOf picture codestream
    × MatchBool (is_boxed (image_of picture.header) (bytes_if picture.profile) boxed exif xmp)
    (HasBoxes file (boxes_of codestream (level_of (image_of picture.header) (bytes_if picture.profile)) exif xmp)) (file ≡ codestream)
