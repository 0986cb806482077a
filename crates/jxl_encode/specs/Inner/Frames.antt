-- The channels of a picture, as an encoder of its frame is given them.
use Rattle.std.specs.Prelude.{◌≡◌, ◌≤◌, ℕ, List, length}
use Rattle.std.specs.List.{All}
use Rattle.jxlm_transform.specs.Channels.{image_list}
use Rattle.jxlm_transform.specs.Params.{IsValidChannel, channel_params, with_sums, with_tables}
use Rattle.jxlm_transform.specs.declared.param.ChannelShift.TheVariants.{Shifts}
use Rattle.jxlm_transform.specs.declared.param.GradientSums.TheVariants.{Clamped}
use Rattle.jxlm_transform.specs.declared.param.ModularChannelParams.{ModularChannelParams}
use Rattle.jxlm_transform.specs.declared.param.PaletteTables.TheVariants.{OfDeltasToo}
use Rattle.jxl_image_header.specs.declared.size.Size.{Size}
use Rattle.jxl_image_header.specs.Images.{Image}
use Rattle.jxl_lossless.specs.Frames.{channels_given}
use Rattle.jxl_encode_frame.specs.Laws.{IsOfSize}

-- a channel of this shift in a picture of this size: its palettes have tables of deltas too, and its sums are clamped
abbrev pub in_file : Size → ℕ → ModularChannelParams
in_file size shift = with_sums Clamped (with_tables OfDeltasToo (channel_params size.width size.height (Shifts shift)))

-- These are the channels of a picture with such a header, as they are given to an encoder.
pub record AreGiven (image : Image) (given : List ModularChannelParams) : Type 0 where
  pub list : image_list given ≡ channels_given image image.size
  pub valid : All IsValidChannel given
  pub few : length given ≤ 65536
  pub sizes : All (IsOfSize image.size) given
