-- The pictures that can be coded (ISO/IEC 18181-1, image header, ICC profile, profiles and levels).
use Rattle.std.specs.Prelude.{◌≡◌, ◌<◌, ◌≤◌, ◌^◌, ℕ, List, length, true, None, is_some, IfSome}
use Rattle.jxl_codestream.specs.FrontParts.{bytes_if}
use Rattle.jxl_image_header.specs.Images.{image_of, image_refusal}
use Rattle.jxl_image_header_write.specs.Writable.{is_writable}
use Rattle.jxl_picture.specs.declared.picture.Picture.{Picture}

-- a profile that a file can hold: it has a byte, and at most as many as level 10 allows
abbrev pub IsCodableProfile : List ℕ → Type 0
IsCodableProfile icc = (0 < length icc) × (length icc ≤ 2 ^ 28)

-- A header spells what is said of the picture, and has nothing that is not supported. Its sides are those of a Modular image. The
-- header says that there is a profile exactly if there is one, which a file can hold.
pub record IsCodable (picture : Picture) : Type 0 where
  pub writable : is_writable (image_of picture.header) ≡ true
  pub supported : image_refusal (image_of picture.header) ≡ None
  pub wide : picture.header.size.width ≤ 2 ^ 30
  pub high : picture.header.size.height ≤ 2 ^ 30
  pub want_icc : picture.header.colour_encoding.want_icc ≡ is_some (bytes_if picture.profile)
  pub profile : IfSome (bytes_if picture.profile) IsCodableProfile
