-- An image: what it was read with, and its buffers.
use Rattle.std.specs.Prelude.{◌+◌, ℕ, List, length, map, take, Bool, ℤ}
use Rattle.std.specs.Int.{Width}
use Rattle.jxlm_base.specs.Grid.{Grid, meanings}
use Rattle.jxlm_base.specs.Regions.{store_meanings}
use Rattle.jxlm_base.specs.declared.subgrid.Region.{Region}
use Rattle.jxlm_chain.specs.Chain as chain
use Rattle.jxlm_transform.specs.Channels.{Channel, ChannelList}
use Rattle.jxlm_transform.specs.ChannelSteps.{Step}
use Rattle.jxlm_tree.specs.Tree.{Config, depth}
use Rattle.jxlm_weighted.specs.declared.weights.WpHeader.{WpHeader}
use Rattle.jxlm_samples.specs.Part.{Part}
use Rattle.jxlm_samples.specs.Progress.{grids_in}

-- what was read, its own channels, the coded ones, of which the first are meta channels, its buffers, and where those lie
pub record Image (S D : Type 0) : Type 0 where
  pub has_palette : Bool
  pub has_squeeze : Bool
  pub weights : WpHeader
  pub steps : List Step
  pub config : Config D
  pub group_dim : ℕ
  pub bit_depth : ℕ
  pub given : List Channel
  pub channels : List Channel
  pub nb_meta : ℕ
  pub store : List (Grid S)
  pub coded : List Region

-- the image's own channels, the first of its buffers, of the numbers that the samples stand for
abbrev pub image_grids : {S D : Type 0} → (S → ℤ) → Image S D → List (Grid ℤ)
image_grids to_int x = map (meanings to_int) (take (length x.given) x.store)

module _ {S D : Type 0} where
  -- the image's own channels, none of which is a meta channel
  abbrev pub given_list : Image S D → ChannelList
  given_list x = record { channels = x.given; nb_meta = 0 }

  -- its coded channels, the first of which are meta channels
  abbrev pub coded_list : Image S D → ChannelList
  coded_list x = record { channels = x.channels; nb_meta = x.nb_meta }

  -- the first n of its coded channels
  abbrev pub front_channels : ℕ → Image S D → List Channel
  front_channels n x = take n x.channels

  -- their regions
  abbrev pub front_regions : ℕ → Image S D → List Region
  front_regions n x = take n x.coded

  -- the part of these, read with this stream index
  abbrev pub front_part : ℕ → Image S D → ℕ → Part
  front_part n x stream = record { channels = front_channels n x; weights = x.weights; tree = x.config.tree; stream = stream }

  -- the grids of the coded channels, of the numbers that the samples stand for
  abbrev pub coded_grids : (S → ℤ) → Image S D → List (Grid ℤ)
  coded_grids to_int x = grids_in x.coded (store_meanings to_int x.store)

  -- these grids are the only ones that the steps turn into those coded ones
  abbrev pub IsOnlyImage : Width → Image S D → List (Grid ℤ) → List (Grid ℤ) → Type 0
  IsOnlyImage w x image coded = chain.IsOnlyImage w x.bit_depth x.steps (given_list x) image coded

  -- how many nodes of the tree a walk may look at
  abbrev pub cost_of : Image S D → ℕ
  cost_of x = depth x.config.tree + 1
