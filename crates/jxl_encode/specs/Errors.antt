-- Why a picture is not encoded (ISO/IEC 18181-1, frame: table of contents, sections).
use Rattle.std.specs.Prelude.{◌⊎◌, ◌+◌, ◌*◌, ◌^◌, ◌<◌, ◌≤◌, ℕ, ℤ, List, length, sum_by, Any}
use Rattle.jxlm_base.specs.Grid.{Grid}
use Rattle.jxl_codestream.specs.Layouts.{section_count_of}
use Rattle.jxl_image_header.specs.Images.{image_of}
use Rattle.jxl_picture.specs.declared.picture.Picture.{Picture}
use Rattle.jxl_encode.specs.Frames.{AreSectionsOf, cut_of}
use Rattle.jxl_encode.specs.declared.error.EncodeError.{EncodeError}
use Rattle.jxl_encode.specs.declared.error.EncodeError.TheVariants.{OutOfMemory, TooLarge}

-- how many samples these channels have
abbrev pub sample_count : List (Grid ℤ) → ℕ
sample_count channels = sum_by (λ g. g.width * g.height) channels

-- the frame of a picture has more than 2^24 sections, or the picture 2^31 samples or more
abbrev pub IsTooLarge : Picture → Type 0
IsTooLarge picture =
    (2 ^ 24 < section_count_of (cut_of (image_of picture.header))) ⊎ (2 ^ 31 ≤ sample_count picture.channels.items)

-- a section is longer than a table of contents can say: the last of its size fields begins at 4,211,712 and has 30 bits
abbrev pub IsLong : List ℕ → Type 0
IsLong bytes = 2 ^ 30 + 4211712 ≤ length bytes

-- A picture has 2^27 samples or more, and these sections of its frame, one of which is too long.
pub record HasLongSection (picture : Picture) : Type 0 where
  pub many : 2 ^ 27 ≤ sample_count picture.channels.items
  pub sections : List (List ℕ)
  pub are : AreSectionsOf picture sections
  pub long : Any IsLong sections

-- what each error says of a picture that is not encoded
abbrev pub EncodeFails : Picture → EncodeError → Type 0
EncodeFails picture TooLarge = IsTooLarge picture ⊎ HasLongSection picture
EncodeFails picture OutOfMemory = Unit {0}
