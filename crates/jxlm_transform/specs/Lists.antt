-- Channels and their places as a program keeps them, and what a step makes of them.
use Rattle.std.specs.Prelude.{◌≡◌, Ok}
use Rattle.jxlm_transform.specs.Channels.{ChannelList, infos, regions}
use Rattle.jxlm_transform.specs.ChannelSteps.{Step, list_after}
use Rattle.jxlm_transform.specs.Layout.{Layout, layout_after}
use Rattle.jxlm_transform.specs.declared.channels.ModularChannels.{ModularChannels}

-- the list that a program keeps
abbrev pub list_of : ModularChannels → ChannelList
list_of l = record { channels = infos l.placed.items; nb_meta = l.nb_meta_channels }

-- the layout that a program keeps
abbrev pub layout_of : ModularChannels → Layout
layout_of l = record { regions = regions l.placed.items; buffers = l.buffers }

-- a step turned these channels into those, and put them where they lie
pub record IsAfter (s : Step) (old new : ModularChannels) : Type 0 where
  pub list : list_after s (list_of old) ≡ Ok (list_of new)
  pub layout : layout_of new ≡ layout_after s (layout_of old)

-- the same channels in the same places
pub record IsSame (old new : ModularChannels) : Type 0 where
  pub list : list_of new ≡ list_of old
  pub layout : layout_of new ≡ layout_of old
