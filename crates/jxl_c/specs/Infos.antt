-- What a caller is told of a picture.
use Rattle.std.specs.Prelude.{◌≡◌, ℕ, ◌+◌, List, [], ◌∷◌, length, if◌then◌else◌}
use Rattle.jxl_image_header.specs.Images.{Image}
use Rattle.jxl_image_header.specs.declared.channel.ExtraChannel.{ExtraChannel}
use Rattle.jxl_netpbm.specs.Formats.{tuple_count}
use Rattle.jxl_picture.specs.Pictures.{colour_count, is_full_alpha}
use Rattle.jxl_c_picture.specs.Channels.{sample_count}
use Rattle.jxl_c.specs.Headers.{HasHeaders, profile_bytes, shown_image}
use Rattle.jxl_c_picture.specs.Numbers.{gamma_of, intent_number, primaries_number, space_number, transfer_number, white_number}
use Rattle.jxl_c_picture.specs.declared.info.CInfo.{CInfo}
use Rattle.jxl_c.specs.declared.limits.CLimits.{CLimits}

-- the number of the first alpha channel of the picture's size among extra channels after this number of others, or 0
abbrev pub alpha_among : ℕ → List ExtraChannel → ℕ
alpha_among n [] = 0
alpha_among n (c ∷ cs) = if is_full_alpha c then n else alpha_among (n + 1) cs

-- This is what an image header says of a picture with a profile of this number of bytes.
pub record IsInfoOf (image : Image) (icc_len : ℕ) (info : CInfo) : Type 0 where
  pub width : info.width ≡ image.size.width
  pub height : info.height ≡ image.size.height
  pub colours : info.colours ≡ colour_count image
  pub extra : info.extra ≡ length image.ec_info
  pub bits : info.bits ≡ image.bit_depth.bits_per_sample
  pub exponent : info.exponent_bits ≡ image.bit_depth.exp_bits
  pub alpha : info.alpha ≡ alpha_among (colour_count image) image.ec_info
  pub space : info.space ≡ space_number image.colour_encoding.colour_space
  pub white : info.white ≡ white_number image.colour_encoding.white_point
  pub primaries : info.primaries ≡ primaries_number image.colour_encoding.primaries
  pub transfer : info.transfer ≡ transfer_number image.colour_encoding.transfer_function
  pub gamma : info.gamma ≡ gamma_of image.colour_encoding.transfer_function
  pub intent : info.intent ≡ intent_number image.colour_encoding.rendering_intent
  pub interleaved : info.interleaved ≡ tuple_count image
  pub profile : info.profile ≡ icc_len
  pub samples : info.samples ≡ sample_count image

-- This is what the headers of a file say, whose picture is supported up to its samples.
pub record IsInfoOfFile (limits : CLimits) (file : List ℕ) (info : CInfo) : Type 0 where
  pub has : HasHeaders limits file
  pub is : IsInfoOf (shown_image limits file has) (length (profile_bytes has.icc)) info
