-- A picture with another orientation (ISO/IEC 18181-1, image header: orientation).
use Rattle.std.specs.Prelude.{ℕ}
use Rattle.jxl_image_header.specs.Images.{Image}

-- the header of the same picture with this orientation
abbrev pub image_with_orientation : ℕ → Image → Image
image_with_orientation n image = record image { orientation = n }
