-- Channels with their places, as a program keeps them, and what applying transforms to them gives.
use Rattle.std.specs.Prelude.{◌≡◌, ◌+◌, ◌^◌, ◌<◌, List, ◌++◌, length, map, Result, Ok, Err}
use Rattle.jxlm_bits.specs.ErrorKind.{UnlessNoMemory, kind_of}
use Rattle.jxlm_bits.specs.declared.error.Error.{Error}
use Rattle.jxlm_base.specs.declared.subgrid.Region.{Region}
use Rattle.jxlm_transform.specs.Channels.{ChannelList, HasItsMeta}
use Rattle.jxlm_transform.specs.Lists.{list_of, layout_of}
use Rattle.jxlm_transform.specs.ChannelSteps.{Step, coded_list}
use Rattle.jxlm_transform.specs.Kinds.{is_palette, is_squeeze}
use Rattle.jxlm_transform.specs.Steps.{Sides, steps_in, tables_of}
use Rattle.jxlm_transform.specs.Transforms.{Transform}
use Rattle.jxlm_transform.specs.Layout.{Layout, layout_after_all}
use Rattle.jxlm_chain.specs.Undo.{undo_of_all}
use Rattle.jxlm_chain.specs.Undoings.{undos_of}
use Rattle.jxlm_chain.specs.declared.placed.PlacedChannels.{PlacedChannels}

-- only channels of the list are meta channels, and buffers can be counted
pub record IsPlaced (p : PlacedChannels) : Type 0 where
  pub meta : HasItsMeta (list_of p.channels)
  pub room : p.channels.buffers < 2 ^ 63 + length p.tables.items

-- the sides of a region, and of regions
abbrev pub region_sides : Region → Sides
region_sides r = record { width = r.width; height = r.height }

abbrev pub sides_in : List Region → List Sides
sides_in rs = map region_sides rs

-- the steps so far, from channels that lay in these places, put the channels where they lie; these are the tables of
-- the steps, and what undoes them
pub record IsPlacedBy (steps : List Step) (places : Layout) (p : PlacedChannels) : Type 0 where
  pub undos : undos_of p.undoings.items ≡ undo_of_all steps places
  pub layout : layout_of p.channels ≡ layout_after_all steps places
  pub tables : sides_in p.tables.items ≡ tables_of steps

-- they go on by these steps
pub record GoesOn (steps : List Step) (old new : PlacedChannels) : Type 0 where
  pub placed : IsPlaced new
  pub undos : undos_of new.undoings.items ≡ undos_of old.undoings.items ++ undo_of_all steps (layout_of old.channels)
  pub layout : layout_of new.channels ≡ layout_after_all steps (layout_of old.channels)
  pub tables : sides_in new.tables.items ≡ sides_in old.tables.items ++ tables_of steps

-- a transform is a palette, and a squeeze, where the other one is
pub record IsOfKindOf (old new : Transform) : Type 0 where
  pub palette : is_palette new ≡ is_palette old
  pub squeeze : is_squeeze new ≡ is_squeeze old

-- the same of each of a list and the one in its place
pub record AreOfKindsOf (old new : List Transform) : Type 0 where
  pub palettes : map is_palette new ≡ map is_palette old
  pub squeezes : map is_squeeze new ≡ map is_squeeze old

-- What a call that applies transforms in order returned, the transforms after it, which then list their steps, and
-- the list after it.
abbrev pub PrepareGives : List Transform → ChannelList → Result (Unit {0}) Error → List Transform → ChannelList → Type 0
PrepareGives ts l (Ok u) listed m = coded_list ts l ≡ Ok (record { steps = steps_in listed; list = m })
PrepareGives ts l (Err e) listed m = UnlessNoMemory (kind_of e) (coded_list ts l ≡ Err (kind_of e))
