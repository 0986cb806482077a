-- When two pictures are the same: in what is said of them, and in each sample.
use Rattle.std.specs.Prelude.{◌≡◌, ℕ, ◌<◌, ℤ, List}
use Rattle.std.specs.List.{AllZip}
use Rattle.jxlm_base.specs.Grid.{Grid, at}
use Rattle.jxl_image_header.specs.Images.{image_of}
use Rattle.jxl_codestream.specs.FrontParts.{bytes_if}
use Rattle.jxl_picture.specs.declared.picture.Picture.{Picture}

-- Two channels have the same sides, and the same sample in each column of each row.
pub record IsSameChannel (one other : Grid ℤ) : Type 0 where
  pub width : one.width ≡ other.width
  pub height : one.height ≡ other.height
  pub samples : (x y : ℕ) → x < one.width → y < one.height → at one x y ≡ at other x y

-- so do all of two lists, which are as long
abbrev pub AreSameChannels : List (Grid ℤ) → List (Grid ℤ) → Type 0
AreSameChannels some others = AllZip IsSameChannel some others

-- Two pictures have the same header, the same channels and the same profile.
pub record IsSamePicture (one other : Picture) : Type 0 where
  pub header : image_of one.header ≡ image_of other.header
  pub channels : AreSameChannels one.channels.items other.channels.items
  pub profile : bytes_if one.profile ≡ bytes_if other.profile
