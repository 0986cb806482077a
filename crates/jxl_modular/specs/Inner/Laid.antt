-- What is known of each image, from its reading.
use Rattle.std.specs.Prelude.{◌≡◌, ◌≤◌, List, length, Ok}
use Rattle.std.specs.List.{All}
use Rattle.jxlm_transform.specs.Layout.{HasBuffers, buffers_of, first_layout, layout_after_all}
use Rattle.jxlm_chain.specs.Steps.{IsNarrowStore}
use Rattle.jxlm_transform.specs.Channels.{Channel, ChannelList, IsNarrow, image_list}
use Rattle.jxlm_transform.specs.Params.{IsGroupDim, IsValidChannel}
use Rattle.jxlm_transform.specs.declared.param.ModularChannelParams.{ModularChannelParams}
use Rattle.jxlm_transform.specs.ChannelSteps.{list_after_all}
use Rattle.jxlm_transform.specs.Steps.{HasChannels, HasWeights}
use Rattle.jxlm_weighted.specs.SelfCorrecting.{IsHeader}
use Rattle.jxl_modular.specs.Image.{Image, coded_list, given_list}

-- channels of an image, before any transform: none is a meta channel
abbrev pub given_channels : List Channel → ChannelList
given_channels channels = record { channels = channels; nb_meta = 0 }

-- channels as valid parameters ask for them
pub record AreAskedFor (channels : List Channel) : Type 0 where
  pub params : List ModularChannelParams
  pub valid : All IsValidChannel params
  pub are : channels ≡ (image_list params).channels

-- The coded channels, which are narrow and at most 65536, are those that the steps leave, and lie where these put
-- them; the buffers are those of the image's own channels, and then those of the tables.
pub record IsLaidOut {S D : Type 0} (x : Image S D) : Type 0 where
  pub list : list_after_all x.steps (given_list x) ≡ Ok (coded_list x)
  pub regions : x.coded ≡ (layout_after_all x.steps (first_layout (given_list x).channels)).regions
  pub buffers : HasBuffers (buffers_of (given_list x).channels x.steps) x.store
  pub narrow_store : IsNarrowStore x.store
  pub narrow : All IsNarrow x.channels
  pub few : length x.channels ≤ 65536
  pub weights : IsHeader x.weights
  pub steps : All HasChannels x.steps
  pub palettes : All (HasWeights x.weights) x.steps
  pub deep : x.bit_depth ≤ 32
  pub groups : IsGroupDim x.group_dim
  pub asked : AreAskedFor x.given
