-- Channels after the transforms of an encoder.
use Rattle.std.specs.Prelude.{◌≡◌, ◌+◌, ◌<◌, ◌≤◌, ℕ, ℤ, List, get_or, length, Ok}
use Rattle.std.specs.Int.{Width}
use Rattle.std.specs.List.{All}
use Rattle.jxlm_base.specs.Grid.{Grid, IsFull}
use Rattle.jxlm_base.specs.Outside.{buffer_at}
use Rattle.jxlm_base.specs.declared.subgrid.Region.{Region}
use Rattle.jxlm_chain.specs.Placed.{IsPlacedBy}
use Rattle.jxlm_chain.specs.declared.placed.PlacedChannels.{PlacedChannels}
use Rattle.jxlm_transform.specs.Channels.{ChannelList, HasItsMeta}
use Rattle.jxlm_transform.specs.ChannelSteps.{Step, coded_list, range}
use Rattle.jxlm_transform.specs.Layout.{no_region}
use Rattle.jxlm_transform.specs.Lists.{layout_of, list_of}
use Rattle.jxlm_transform.specs.Transforms.{Transform}
use Rattle.jxlm_transform.specs.declared.channels.ModularChannels.{ModularChannels}
use Rattle.jxlm_transform.specs.declared.transform.Palette.{Palette}
use Rattle.jxl_encode_image.specs.Palettes.{IsPaletteFor}
use Rattle.jxl_encode_image.specs.Images.{IsCodedImage, LieCoded}
use Rattle.jxl_encode_image.specs.Preparations.{image_transforms}
use Rattle.jxl_encode_image.specs.declared.transform.ImageTransform.{ImageTransform}

-- The transforms come to these steps, which put the channels where they lie; they are at most 65536.
pub record IsPlacedFor (ts : List Transform) (old : ModularChannels) (p : PlacedChannels) : Type 0 where
  pub steps : List Step
  pub come : coded_list ts (list_of old) ≡ Ok (record { steps = steps; list = list_of p.channels })
  pub by : IsPlacedBy steps (layout_of old) p
  pub meta : HasItsMeta (list_of p.channels)
  pub count : length (list_of p.channels).channels ≤ 65536

-- the region of a channel
abbrev pub region_at : ModularChannels → ℕ → Region
region_at channels number = get_or (layout_of channels).regions number no_region

module _ {S : Type 0} where
  -- Coded channels lie in a store of full grids, each of which is taken; only they are meta channels.
  pub record LieAlone (channels : ModularChannels) (store : List (Grid S)) : Type 0 where
    pub lie : LieCoded channels store
    pub meta : HasItsMeta (list_of channels)
    pub all : length store ≡ channels.buffers
    pub full : All IsFull store

  -- the region is the whole of this buffer
  pub record LiesWhole (r : Region) (buffer : ℕ) (store : List (Grid S)) : Type 0 where
    pub there : r.buffer ≡ buffer
    pub left : r.x ≡ 0
    pub top : r.y ≡ 0
    pub wide : r.width ≡ (buffer_at store buffer).width
    pub high : r.height ≡ (buffer_at store buffer).height

  -- Whatever image the first transforms made these channels of, the others make those channels of it.
  abbrev pub GoesOnTo : (S → ℤ) → Width → ModularChannels → List (Grid S) → List ImageTransform → ModularChannels → List (Grid S) → List ImageTransform → Type 0
  GoesOnTo to_int w channels store ts others grids us = (given : ChannelList) (image : List (Grid ℤ)) →
      IsCodedImage to_int w (image_transforms ts) given image channels store → IsCodedImage to_int w (image_transforms us) given image others grids

  -- This palette is one of channels that are the whole of these buffers of the store, and a header can spell its first channel.
  pub record IsPaletteAt (to_int : S → ℤ) (w : Width) (channels : ModularChannels) (store : List (Grid S)) (first count : ℕ) (palette : Palette) (table index : Grid S) : Type 0 where
    pub made : IsPaletteFor to_int w palette.begin_c (range first count store) palette table index
    pub begin : palette.begin_c ≤ 9287
    pub there : first + count ≤ length store
    pub whole : (k : ℕ) → k < count → LiesWhole (region_at channels (palette.begin_c + k)) (first + k) store
