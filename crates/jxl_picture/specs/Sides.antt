-- The sides of channels as the code compares them: those of colours, and after them the extra ones.
use Rattle.std.specs.Prelude.{◌≡◌, ℕ, ◌+◌, ◌^◌, ℤ, List, length, take, drop}
use Rattle.std.specs.Int.{div_ceil}
use Rattle.std.specs.List.{All, AllZip}
use Rattle.jxlm_base.specs.Grid.{Grid}
use Rattle.jxl_image_header.specs.Images.{Image}
use Rattle.jxl_image_header.specs.declared.channel.ExtraChannel.{ExtraChannel}
use Rattle.jxl_image_header.specs.declared.size.Size.{Size}
use Rattle.jxl_picture.specs.Pictures.{colour_count}

-- a channel has these sides
pub record HasSides (width height : ℕ) (g : Grid ℤ) : Type 0 where
  pub wide : g.width ≡ width
  pub high : g.height ≡ height

-- a channel has the sides that an extra channel of a frame of this size has: by its own shift halved so often, and rounded up
abbrev pub HasShiftedSides : Size → ExtraChannel → Grid ℤ → Type 0
HasShiftedSides size c g = HasSides (div_ceil size.width (2 ^ c.dim_shift)) (div_ceil size.height (2 ^ c.dim_shift)) g

-- there are this number of channels, those of colours have the frame's sides, and each extra channel has its own
pub record HaveSides (image : Image) (size : Size) (channels : List (Grid ℤ)) : Type 0 where
  pub count : length channels ≡ colour_count image + length image.ec_info
  pub colours : All (HasSides size.width size.height) (take (colour_count image) channels)
  pub extra : AllZip (HasShiftedSides size) image.ec_info (drop (colour_count image) channels)
