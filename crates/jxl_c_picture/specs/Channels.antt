-- The channels of a picture as a caller is told them.
use Rattle.std.specs.Prelude.{ℕ, ◌+◌, ◌*◌, ◌^◌, List, [], ◌∷◌, ◌++◌, map, replicate, Bool, false, if◌then◌else◌}
use Rattle.std.specs.Int.{div_ceil}
use Rattle.std.specs.List.{sum_by}
use Rattle.jxl_image_header.specs.Images.{Image}
use Rattle.jxl_image_header.specs.declared.channel.BitDepth.{BitDepth}
use Rattle.jxl_image_header.specs.declared.channel.ExtraChannel.{ExtraChannel}
use Rattle.jxl_image_header.specs.declared.size.Size.{Size}
use Rattle.jxl_picture.specs.Pictures.{colour_count}
use Rattle.jxl_c_picture.specs.Numbers.{kind_number}
use Rattle.jxl_c_picture.specs.declared.channels.CChannel.{CChannel}

-- the image header of a picture that has this size as it is shown
abbrev pub shown_as : Size → Image → Image
shown_as size image = record image { size = size; orientation = 1 }

-- a channel of a picture of this size: its kind, shift and depth, and whether colours were multiplied by it
abbrev pub entry : Size → ℕ → ℕ → BitDepth → Bool → CChannel
entry size kind shift depth associated = record {
  first = 0;
  kind = kind;
  width = div_ceil size.width (2 ^ shift);
  height = div_ceil size.height (2 ^ shift);
  shift = shift;
  bits = depth.bits_per_sample;
  exponent_bits = depth.exp_bits;
  associated = if associated then 1 else 0;
  reserved = 0;
}

-- a channel of colours, of the kind 256
abbrev pub colour_entry : Image → CChannel
colour_entry image = entry image.size 256 0 image.bit_depth false

-- an extra channel
abbrev pub extra_entry : Size → ExtraChannel → CChannel
extra_entry size c = entry size (kind_number c.kind) c.dim_shift c.bit_depth c.alpha_associated

-- all channels: those of colours, and the extra ones
abbrev pub entries_of : Image → List CChannel
entries_of image = replicate (colour_count image) (colour_entry image) ++ map (extra_entry image.size) image.ec_info

-- how many samples a channel has, and how many all have
abbrev pub cell_count : CChannel → ℕ
cell_count c = c.width * c.height

abbrev pub sample_count : Image → ℕ
sample_count image = sum_by cell_count (entries_of image)

-- the first sample of each channel comes after those of the channels before it
abbrev pub placed : ℕ → List CChannel → List CChannel
placed first [] = []
placed first (c ∷ cs) = record c { first = first } ∷ placed (first + cell_count c) cs

-- the channels of a picture, each with its first sample
abbrev pub channels_of : Image → List CChannel
channels_of image = placed 0 (entries_of image)
