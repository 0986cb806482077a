-- The part that an encoder writes the samples of.
use Rattle.std.specs.Prelude.{◌≤◌, List, length}
use Rattle.std.specs.List.{All}
use Rattle.jxlm_transform.specs.Lists.{list_of, layout_of}
use Rattle.jxlm_base.specs.Grid.{Grid}
use Rattle.jxlm_base.specs.Regions.{AllLie, LieApart}
use Rattle.jxlm_chain.specs.declared.placed.PlacedChannels.{PlacedChannels}
use Rattle.jxlm_transform.specs.Channels.{AreRegionsOf, IsNarrow}
use Rattle.jxlm_tree.specs.Tree.{Shape}
use Rattle.jxlm_ma_tree.specs.declared.leaf.Leaf.{Leaf}
use Rattle.jxlm_samples.specs.Part.{Part}
use Rattle.jxlm_weighted.specs.WeightsHeader.{default_weights}

-- the coded channels lie in the store, narrow, at most 65536, and apart from one another
pub record ChannelsLie {S : Type 0} (p : PlacedChannels) (store : List (Grid S)) : Type 0 where
  pub sizes : AreRegionsOf (list_of p.channels).channels (layout_of p.channels).regions
  pub narrow : All IsNarrow (list_of p.channels).channels
  pub few : length (list_of p.channels).channels ≤ 65536
  pub lie : AllLie (layout_of p.channels).regions store
  pub apart : LieApart (layout_of p.channels).regions

-- the part of all coded channels, as this tree predicts them
abbrev pub part_at : PlacedChannels → Shape Leaf → Part
part_at p tree = record { channels = (list_of p.channels).channels; weights = default_weights; tree = tree; stream = 0 }
