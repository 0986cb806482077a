-- A decoded picture: its channels, and what the headers say of it.
use Rattle.std.specs.Prelude.{◌≡◌, ℕ, ◌^◌, ◌==◌, ◌&&◌, ℤ, List, ◌++◌, map, replicate, Bool, if◌then◌else◌}
use Rattle.std.specs.Int.{div_ceil}
use Rattle.std.specs.List.{AllZip, list_any}
use Rattle.jxlm_base.specs.Grid.{Grid}
use Rattle.jxl_image_header.specs.Channels as kinds
use Rattle.jxl_image_header.specs.Colours as spaces
use Rattle.jxl_image_header.specs.Images.{Image}
use Rattle.jxl_image_header.specs.declared.channel.ExtraChannel.{ExtraChannel}
use Rattle.jxl_image_header.specs.declared.size.Size.{Size}

-- colours are grey
abbrev pub is_grey : Image → Bool
is_grey image = spaces.is_grey image.colour_encoding.colour_space

-- how many channels colours have
abbrev pub colour_count : Image → ℕ
colour_count image = if is_grey image then 1 else 3

-- an extra channel is alpha, and whether there is one
abbrev pub is_alpha : ExtraChannel → Bool
is_alpha c = kinds.is_alpha c.kind

abbrev pub has_alpha : Image → Bool
has_alpha image = list_any is_alpha image.ec_info

-- it is alpha, and as large as the picture; and whether there is such a channel
abbrev pub is_full_alpha : ExtraChannel → Bool
is_full_alpha c = is_alpha c && (c.dim_shift == 0)

abbrev pub has_full_alpha : Image → Bool
has_full_alpha image = list_any is_full_alpha image.ec_info

-- how often each channel is halved: those of colours not at all, extra channels by their shifts
abbrev pub shifts_of : Image → List ℕ
shifts_of image = replicate (colour_count image) 0 ++ map (λ c. c.dim_shift) image.ec_info

-- these are all channels of a frame of this size: each has its sides, halved so often and rounded up
abbrev pub AreChannels : Image → Size → List (Grid ℤ) → Type 0
AreChannels image size channels = AllZip (λ s g. (g.width ≡ div_ceil size.width (2 ^ s)) × (g.height ≡ div_ceil size.height (2 ^ s))) (shifts_of image) channels

-- these are all channels of a picture
abbrev pub IsWhole : Image → List (Grid ℤ) → Type 0
IsWhole image channels = AreChannels image image.size channels
