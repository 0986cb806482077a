-- How large a picture may be.
use Rattle.std.specs.Prelude.{ℕ, ◌+◌, ◌*◌, ◌/◌, ◌^◌, ◌≤◌, max, min, length}
use Rattle.jxl_image_header.specs.Images.{Image}
use Rattle.jxl_image_header.specs.declared.size.Size.{Size}
use Rattle.jxl_picture.specs.Pictures.{colour_count}
use Rattle.jxl_picture.specs.declared.limits.Limits.{Limits}
use Rattle.jxl_picture.specs.declared.limits.TreeLimits.{TreeLimits}

-- how many channels a picture has
abbrev pub channel_count : Image → ℕ
channel_count image = colour_count image + length image.ec_info

-- how many cells a channel of this size has
abbrev pub cells_of : Size → ℕ
cells_of size = size.width * size.height

-- A frame of this size, after others with this number of cells, is within the limits: its sides are those of a Modular image, and
-- together they have no more cells and bytes than one picture may have, where samples have four bytes each.
abbrev pub AllowFrame : Limits → Image → ℕ → Size → Type 0
AllowFrame limits image used size = (size.width ≤ 2 ^ 30) × (size.height ≤ 2 ^ 30) × (used + cells_of size ≤ limits.pixels)
    × ((used + cells_of size) * (4 * channel_count image) ≤ limits.bytes)

-- The maximum depth of a tree that sections of such a frame share, after others with this number of cells: the limit, or more if
-- together they have fewer than 2^22 samples, which then may take as many decisions as 2^22 would.
abbrev pub deepest : Limits → Image → ℕ → Size → ℕ
deepest limits image used size = limits.decisions * 2 ^ 22 / max 1 (min (2 ^ 22) ((used + cells_of size) * channel_count image))

-- the limits on the trees of such a frame
abbrev pub tree_limits : Limits → Image → ℕ → Size → TreeLimits
tree_limits limits image used size = record { depth = deepest limits image used size; codewords = limits.codewords }

-- the picture is within the limits: so is a first frame of its size, and its samples and channels are
pub record Allow (limits : Limits) (image : Image) : Type 0 where
  pub frame : AllowFrame limits image 0 image.size
  pub deep : image.bit_depth.bits_per_sample ≤ 32
  pub channels : channel_count image ≤ limits.channels
  pub most : channel_count image ≤ 2 ^ 20
