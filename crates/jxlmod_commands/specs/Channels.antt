-- The channels of the pictures that commands read and write.
use Rattle.std.specs.Prelude.{ℕ, ℤ, pos, List, map, replicate}
use Rattle.jxlm_base.specs.Grid.{Grid}
use Rattle.jxlm_transform.specs.Channels.{Channel, ChannelList}
use Rattle.jxlm_transform.specs.declared.param.ChannelShift.TheVariants.{Shifts}
use Rattle.jxlm_transform.specs.declared.param.GradientSums.TheVariants.{Wrapped}
use Rattle.jxlm_transform.specs.declared.param.PaletteTables.TheVariants.{OfColours}

-- a channel of this size and of shift 0
abbrev pub plain_channel : ℕ → ℕ → Channel
plain_channel width height = record { width = width; height = height; original_width = width; original_height = height; hshift = pos 0; vshift = pos 0; original_shift = Shifts 0; palette_tables = OfColours; gradient_sums = Wrapped }

-- n channels of one size
abbrev pub channels_asked : ℕ → ℕ → ℕ → ChannelList
channels_asked width height n = record { channels = replicate n (plain_channel width height); nb_meta = 0 }

-- a channel for each grid of an image, of its size
abbrev pub channels_of : List (Grid ℤ) → ChannelList
channels_of image = record { channels = map (λ g. plain_channel g.width g.height) image; nb_meta = 0 }
