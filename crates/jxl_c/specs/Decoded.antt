-- What a call has decoded.
use Rattle.std.specs.Prelude.{◌≡◌, ◌≤◌, ℕ, ℤ, List}
use Rattle.std.specs.List.{All}
use Rattle.jxlm_base.specs.Grid.{IsFull}
use Rattle.jxl_image_header.specs.Images.{image_of}
use Rattle.jxl_picture.specs.Pictures.{IsWhole}
use Rattle.jxl_picture.specs.declared.picture.Picture.{Picture}
use Rattle.jxl_lossless.specs.Pictures.{IsPictureOfFile}
use Rattle.jxl_c_picture.specs.Cells.{cells_of_all}
use Rattle.jxl_c.specs.Kinds.{limits_of}
use Rattle.jxl_c.specs.declared.limits.CLimits.{CLimits}

-- The file has a picture, each of whose channels has all its samples, and which took this number of steps in trees.
pub record HasPicture (limits : CLimits) (file : List ℕ) : Type 0 where
  pub known : 40 ≤ limits.size
  pub picture : Picture
  pub steps : ℕ
  pub is : IsPictureOfFile (limits_of limits) file picture 0 steps
  pub whole : IsWhole (image_of picture.header) picture.channels.items
  pub full : All IsFull picture.channels.items

-- These are its samples.
pub record AreSamplesOfFile (limits : CLimits) (file : List ℕ) (samples : List ℤ) : Type 0 where
  pub has : HasPicture limits file
  pub are : samples ≡ cells_of_all has.picture.channels.items
