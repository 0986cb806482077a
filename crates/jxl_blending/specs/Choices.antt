-- How each channel of a frame is blended (ISO/IEC 18181-1, frame header: BlendingInfo, BlendMode).
use Rattle.std.specs.Prelude.{ℕ, ◌-◌, ◌^◌, ◌==◌, min, nat_le, nat_lt, not, Bool, false, if◌then◌else◌, slice_get}
use Rattle.std.specs.Option.{option_map_or}
use Rattle.jxl_image_header.specs.Images.{Image}
use Rattle.jxl_image_header.specs.declared.channel.BitDepth.{BitDepth}
use Rattle.jxl_picture.specs.Pictures.{has_alpha}
use Rattle.jxl_frame_header.specs.declared.blending.BlendMode.{BlendMode}
use Rattle.jxl_frame_header.specs.declared.blending.BlendMode.TheVariants as modes
use Rattle.jxl_frame_header.specs.declared.blending.BlendingInfo.{BlendingInfo}
use Rattle.jxl_blending.specs.Scales.{coarse_scale}
use Rattle.jxl_blending.specs.declared.blending.BlendKind.{BlendKind}
use Rattle.jxl_blending.specs.declared.blending.BlendKind.TheVariants.{Keep, Replace, Add, Alpha, Over, OverPremultiplied, AddByAlpha, Multiply}
use Rattle.jxl_blending.specs.declared.blending.ChannelBlending.{ChannelBlending}
use Rattle.jxl_blending.specs.declared.scale.Scale.{Scale}
use Rattle.jxl_blending.specs.declared.scale.Scale.TheVariants.{Floats, Fine}

-- the sample that stands for 1 at a depth, of at most 32 bits
abbrev pub one_of : BitDepth → ℕ
one_of depth = 2 ^ min depth.bits_per_sample 32 - 1

-- samples are rounded only once as they are loaded: where the colours have 23 bits or more
abbrev pub is_fine : Image → Bool
is_fine image = nat_le 23 image.bit_depth.bits_per_sample

-- what samples of a depth stand for
abbrev pub scale_of : BitDepth → Bool → Scale
scale_of depth fine = if not (depth.exp_bits == 0) then Floats else if fine then Fine (one_of depth) else coarse_scale (one_of depth)

-- the same of an extra channel, of no bits if there is none of this number
abbrev pub extra_scale : Image → ℕ → Scale
extra_scale image k = option_map_or (λ c. scale_of c.bit_depth (is_fine image)) (slice_get image.ec_info k) (Fine 0)

-- the same of channel c, after this number of colours
abbrev pub sample_scale : Image → ℕ → ℕ → Scale
sample_scale image colours c = if nat_lt c colours then scale_of image.bit_depth (is_fine image) else extra_scale image (c - colours)

-- samples were multiplied by the alpha of this extra channel before they were coded
abbrev pub is_premultiplied : Image → ℕ → Bool
is_premultiplied image k = option_map_or (λ c. c.alpha_associated) (slice_get image.ec_info k) false

-- samples over others, multiplied by their alpha or not
abbrev pub over_kind : Bool → BlendKind
over_kind premultiplied = if premultiplied then OverPremultiplied else Over

-- what a mode means for colours, in an image with alpha or without
abbrev pub colour_kind : BlendMode → Bool → Bool → BlendKind
colour_kind modes.Replace alpha premultiplied = Replace
colour_kind modes.Add alpha premultiplied = Add
colour_kind modes.Blend alpha premultiplied = if alpha then over_kind premultiplied else Replace
colour_kind modes.MulAdd alpha premultiplied = if alpha then AddByAlpha else Add
colour_kind modes.Mul alpha premultiplied = Multiply

-- what it means for an extra channel, which is the very alpha that the mode takes or another channel
abbrev pub extra_kind : BlendMode → Bool → Bool → BlendKind
extra_kind modes.Replace own premultiplied = Replace
extra_kind modes.Add own premultiplied = Add
extra_kind modes.Blend own premultiplied = if own then Alpha else over_kind premultiplied
extra_kind modes.MulAdd own premultiplied = if own then Keep else AddByAlpha
extra_kind modes.Mul own premultiplied = Multiply

-- whether the factor of an extra channel is clamped: as the header says, but in libjxl the other way where it is blended by alpha
abbrev pub extra_clamp : BlendMode → Bool → Bool
extra_clamp modes.Blend clamp = not clamp
extra_clamp mode clamp = clamp

-- how colours are blended
abbrev pub colour_blending : Image → BlendingInfo → ChannelBlending
colour_blending image info = record {
  kind = colour_kind info.mode (has_alpha image) (is_premultiplied image info.alpha_channel);
  samples = scale_of image.bit_depth (is_fine image);
  alpha = extra_scale image info.alpha_channel;
  clamp = info.clamp;
}

-- how the extra channel of this number is blended
abbrev pub extra_blending : Image → BlendingInfo → ℕ → ChannelBlending
extra_blending image info channel = record {
  kind = extra_kind info.mode (channel == info.alpha_channel) (is_premultiplied image info.alpha_channel);
  samples = extra_scale image channel;
  alpha = extra_scale image info.alpha_channel;
  clamp = extra_clamp info.mode info.clamp;
}

-- how the extra channel of this number is blended that is the alpha by which colours are
abbrev pub alpha_blending : Image → BlendingInfo → ℕ → ChannelBlending
alpha_blending image info channel = record { kind = Alpha; samples = extra_scale image channel; alpha = extra_scale image channel; clamp = info.clamp }
