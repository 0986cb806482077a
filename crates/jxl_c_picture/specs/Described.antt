-- The image header of a picture that a caller describes.
use Rattle.std.specs.Prelude.{◌≡◌, ◌==◌, not, List, false, None, if◌then◌else◌}
use Rattle.std.specs.List.{AllZip}
use Rattle.jxl_image_header.specs.Images.{Image}
use Rattle.jxl_image_header.specs.declared.channel.ExtraChannel.{ExtraChannel}
use Rattle.jxl_image_header.specs.declared.colour.ColourEncoding.{ColourEncoding}
use Rattle.jxl_picture.specs.Pictures.{colour_count}
use Rattle.jxl_c_picture.specs.Numbers.{gamma_of, intent_number, kind_number, primaries_number, space_number, transfer_number, white_number}
use Rattle.jxl_c_picture.specs.declared.channels.CChannel.{CChannel}
use Rattle.jxl_c_picture.specs.declared.info.CInfo.{CInfo}

-- an extra channel as a caller describes it, without a name
pub record IsExtraOf (c : CChannel) (extra : ExtraChannel) : Type 0 where
  pub kind : kind_number extra.kind ≡ c.kind
  pub bits : extra.bit_depth.bits_per_sample ≡ c.bits
  pub exponent : extra.bit_depth.exp_bits ≡ c.exponent_bits
  pub shift : extra.dim_shift ≡ c.shift
  pub name : extra.name_len ≡ 0
  pub associated : (if extra.alpha_associated then 1 else 0) ≡ c.associated

-- what colours mean as a caller describes it
pub record AreColoursOf (info : CInfo) (colours : ColourEncoding) : Type 0 where
  pub profile : colours.want_icc ≡ not (info.profile == 0)
  pub space : space_number colours.colour_space ≡ info.space
  pub white : white_number colours.white_point ≡ info.white
  pub primaries : primaries_number colours.primaries ≡ info.primaries
  pub transfer : transfer_number colours.transfer_function ≡ info.transfer
  pub gamma : gamma_of colours.transfer_function ≡ info.gamma
  pub intent : intent_number colours.rendering_intent ≡ info.intent

-- This is the image header of a picture as a caller describes it: upright, without a preview, an animation and extensions, and
-- with the brightness by default.
pub record IsDescribed (info : CInfo) (described : List CChannel) (image : Image) : Type 0 where
  pub width : image.size.width ≡ info.width
  pub height : image.size.height ≡ info.height
  pub upright : image.orientation ≡ 1
  pub intrinsic : image.intrinsic_size ≡ None
  pub preview : image.preview ≡ None
  pub animation : image.animation ≡ None
  pub bits : image.bit_depth.bits_per_sample ≡ info.bits
  pub exponent : image.bit_depth.exp_bits ≡ info.exponent_bits
  pub extra : AllZip IsExtraOf described image.ec_info
  pub xyb : image.xyb_encoded ≡ false
  pub colours : AreColoursOf info image.colour_encoding
  pub count : colour_count image ≡ info.colours
  pub tone : image.tone_mapping ≡ record { intensity_target = 0x5BF8; min_nits = 0; relative_to_max_display = false; linear_below = 0 }
  pub extensions : image.extensions ≡ 0
