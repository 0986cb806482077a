-- The coded channels of an image, as its header leaves them of the given ones (ISO/IEC 18181-1, Modular: Modular header).
use Rattle.std.specs.Prelude.{◌≡◌, ℕ, List, Bool, Option, Ok, Err}
use Rattle.std.specs.List.{All}
use Rattle.std.specs.Option.{MatchOption}
use Rattle.jxlm_bits.specs.ErrorKind.{ErrorAt}
use Rattle.jxlm_transform.specs.Channels.{AreRegionsOf, ChannelList, IsNarrow, infos, regions}
use Rattle.jxlm_transform.specs.Lists.{list_of}
use Rattle.jxlm_transform.specs.Params.{IsGroupDim}
use Rattle.jxlm_groups.specs.Pieces.{part_channels}
use Rattle.jxlm_groups.specs.declared.part.SectionPart.{SectionPart}
use Rattle.jxlm_groups.specs.declared.pass.Pass.{Pass}
use Rattle.jxlm_header.specs.Opening.{Opening, opening}
use Rattle.jxlm_tree_depth.specs.declared.channels.CodedChannels.{CodedChannels}
use Rattle.jxlm_tree_depth.specs.declared.channels.GivenChannels.{GivenChannels}

-- the channels are narrow, and groups have this side
pub record AreGiven (given : GivenChannels) : Type 0 where
  pub narrow : All IsNarrow given.channels.items
  pub groups : IsGroupDim given.group_dim

-- the coded channels are narrow, lie in regions of their sides, and groups have this side
pub record AreCoded (coded : CodedChannels) : Type 0 where
  pub narrow : All IsNarrow (infos coded.channels.placed.items)
  pub sides : AreRegionsOf (infos coded.channels.placed.items) (regions coded.channels.placed.items)
  pub groups : IsGroupDim coded.group_dim

-- the channels of a part, as a header of its own finds them: none is a meta channel
abbrev pub list_of_part : ℕ → List Pass → ChannelList → SectionPart → ChannelList
list_of_part group_dim passes coded part = record { channels = part_channels group_dim passes coded part; nb_meta = 0 }

-- These are the coded channels of the header at bit p, cut by these passes into groups of this side; there are none exactly
-- where the header has an error.
abbrev pub OpensCoded : Bool → ChannelList → ℕ → List Pass → List ℕ → ℕ → Option CodedChannels → Type 0
OpensCoded has_global given group_dim passes bytes p made = MatchOption made
    ((error : ErrorAt) × ((opening has_global given).read bytes p ≡ Err error))
    (λ coded. (head : Opening) × (q : ℕ) × ((opening has_global given).read bytes p ≡ Ok (record { value = head; position = q }))
    × (list_of coded.channels ≡ head.coded.list) × (coded.group_dim ≡ group_dim) × (coded.passes.items ≡ passes))
