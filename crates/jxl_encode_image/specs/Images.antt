-- An image as it is coded, and its parts: where the channels lie in a store, and the samples there.
use Rattle.std.specs.Prelude.{◌≡◌, ℕ, ◌≤◌, ℤ, List, length}
use Rattle.std.specs.Int.{Width}
use Rattle.std.specs.List.{All}
use Rattle.jxlm_base.specs.Grid.{Grid}
use Rattle.jxlm_base.specs.Regions.{AllLie, LieApart, grids_in, store_meanings}
use Rattle.jxlm_chain.specs.Lying.{LieIn}
use Rattle.jxlm_groups.specs.Pieces.{part_channels, pieces}
use Rattle.jxlm_groups.specs.declared.part.SectionPart.{SectionPart}
use Rattle.jxlm_groups.specs.declared.pass.Pass.{Pass}
use Rattle.jxlm_transform.specs.Channels.{AreRegionsOf, ChannelList, IsNarrow, infos, regions}
use Rattle.jxlm_transform.specs.Lists.{layout_of, list_of}
use Rattle.jxlm_transform.specs.Transforms.{Transform}
use Rattle.jxlm_transform.specs.declared.channels.ModularChannels.{ModularChannels}
use Rattle.jxlm_transform.specs.declared.channels.PlacedChannel.{PlacedChannel}
use Rattle.jxl_encode_image.specs.Preparations.{Preparation}

-- the samples of coded channels that lie in a store
abbrev pub samples_in : {S : Type 0} → (S → ℤ) → ModularChannels → List (Grid S) → List (Grid ℤ)
samples_in to_int channels store = grids_in (layout_of channels).regions (store_meanings to_int store)

-- Coded channels, at most 65536 and narrow, lie in a store, in regions of their sides that share no cell.
pub record LieCoded {S : Type 0} (channels : ModularChannels) (store : List (Grid S)) : Type 0 where
  pub few : length (list_of channels).channels ≤ 65536
  pub narrow : All IsNarrow (list_of channels).channels
  pub lie : LieIn (list_of channels).channels (layout_of channels) store

-- These transforms made samples of an image, and they lie in the store.
pub record IsCodedImage {S : Type 0} (to_int : S → ℤ) (w : Width) (ts : List Transform) (given : ChannelList) (image : List (Grid ℤ)) (channels : ModularChannels) (store : List (Grid S)) : Type 0 where
  pub ready : Preparation w given image
  pub transforms_are : ready.transforms ≡ ts
  pub list_is : ready.coded.list ≡ list_of channels
  pub samples_are : ready.samples ≡ samples_in to_int channels store
  pub lie : LieCoded channels store

-- These are the channels of a part of a coded image, at most 65536 and narrow; they lie in its store, in regions of their sides
-- that share no cell, and their samples there are those of the part.
pub record IsPartIn {S : Type 0} (to_int : S → ℤ) (group_dim : ℕ) (passes : List Pass) (channels : ModularChannels) (store : List (Grid S)) (part : SectionPart) (placed : List PlacedChannel) : Type 0 where
  pub channels_are : infos placed ≡ part_channels group_dim passes (list_of channels) part
  pub samples_are : grids_in (regions placed) (store_meanings to_int store) ≡ grids_in (pieces group_dim passes (list_of channels) part) (samples_in to_int channels store)
  pub few : length placed ≤ 65536
  pub narrow : All IsNarrow (infos placed)
  pub sizes : AreRegionsOf (infos placed) (regions placed)
  pub lie : AllLie (regions placed) store
  pub apart : LieApart (regions placed)
