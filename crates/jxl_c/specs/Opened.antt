-- A file that a call has read up to the sections of its frames.
use Rattle.std.specs.Prelude.{◌≡◌, ◌<◌, ◌≤◌, ◌^◌, ℕ, List, None}
use Rattle.jxl_image_header.specs.Images.{Image, image_of}
use Rattle.jxl_lossless.specs.Files.{IsReadOf, header_of, reason_of, upright}
use Rattle.jxl_lossless.specs.declared.file.JxlFile.{JxlFile}
use Rattle.jxl_picture.specs.Limits.{channel_count}
use Rattle.jxl_c_picture.specs.Channels.{sample_count}
use Rattle.jxl_c.specs.Kinds.{limits_of}
use Rattle.jxl_c.specs.declared.limits.CLimits.{CLimits}

-- the image header of the picture of a file as it is shown
abbrev pub image_shown : JxlFile → Image
image_shown read = upright (image_of (header_of read))

-- All of it is supported, and its channels and samples can be counted.
pub record IsOpen (limits : CLimits) (file : List ℕ) (read : JxlFile) : Type 0 where
  pub known : 40 ≤ limits.size
  pub is : IsReadOf (limits_of limits) file read
  pub none : reason_of read ≡ None
  pub few : channel_count (image_shown read) ≤ 2 ^ 20
  pub small : sample_count (image_shown read) < 2 ^ 64
