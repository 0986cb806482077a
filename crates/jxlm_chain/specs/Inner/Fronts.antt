-- The front of lists of placed channels, as steps leave it while what comes after it stays where it is.
use Rattle.std.specs.Prelude.{◌≡◌, ℕ, ◌+◌, ◌-◌, ◌≤◌, List, ◌++◌, length, take, drop, Bool, if◌then◌else◌, not, ◌&&◌, ◌||◌, nat_lt, nat_le}
use Rattle.jxlm_transform.specs.Channels.{ChannelList, HasItsMeta}
use Rattle.jxlm_transform.specs.Lists.{list_of, layout_of}
use Rattle.jxlm_transform.specs.ChannelSteps.{Step}
use Rattle.jxlm_transform.specs.declared.transform.SqueezeParams.{SqueezeParams}
use Rattle.jxlm_transform.specs.Layout.{Layout, layout_after_all}
use Rattle.jxlm_chain.specs.Placed.{IsPlaced}
use Rattle.jxlm_chain.specs.Undo.{undo_of_all}
use Rattle.jxlm_chain.specs.Undoings.{undos_of}
use Rattle.jxlm_chain.specs.declared.front.Front.{Front}
use Rattle.jxlm_chain.specs.declared.placed.PlacedChannels.{PlacedChannels}

-- the range of a step ends within the first n channels
abbrev pub is_within : ℕ → SqueezeParams → Bool
is_within n t = nat_le (t.begin_c + t.num_c) n

-- it begins after the meta channels, or ends among them and is in place
abbrev pub suits_meta : ℕ → SqueezeParams → Bool
suits_meta nb_meta t = not (nat_lt t.begin_c nb_meta) || t.in_place && nat_le (t.begin_c + t.num_c) nb_meta

-- how many meta channels there are after it
abbrev pub meta_after : ℕ → SqueezeParams → ℕ
meta_after nb_meta t = if nat_lt t.begin_c nb_meta then nb_meta + t.num_c else nb_meta

-- channels with a front in place of those that it stands for, and where they lie
abbrev pub list_with : Front → PlacedChannels → ChannelList
list_with f p = record { channels = (list_of f.placed.channels).channels ++ drop f.count (list_of p.channels).channels; nb_meta = p.channels.nb_meta_channels }

abbrev pub layout_with : Front → PlacedChannels → Layout
layout_with f p = record { regions = (layout_of f.placed.channels).regions ++ drop f.count (layout_of p.channels).regions; buffers = p.channels.buffers }

-- a front stands for channels that are there, has at least as many, and counts none of them as a meta channel
pub record IsFrontOf (p : PlacedChannels) (f : Front) : Type 0 where
  pub placed : IsPlaced f.placed
  pub none : f.placed.channels.nb_meta_channels ≡ 0
  pub long : f.count ≤ length (list_of f.placed.channels).channels
  pub within : f.count ≤ length (list_of p.channels).channels
  pub meta : HasItsMeta (list_with f p)

-- of what a list keeps only its channels and where they lie are others
pub record KeepsRest (old new : PlacedChannels) : Type 0 where
  pub undoings : new.undoings ≡ old.undoings
  pub tables : new.tables ≡ old.tables

-- the last n channels of a front went to the end of the list
pub record AppendsLast (n : ℕ) (old_front : Front) (old : PlacedChannels) (front : Front) (new : PlacedChannels) : Type 0 where
  pub kept : list_of front.placed.channels ≡ record { channels = take (length (list_of old_front.placed.channels).channels - n) (list_of old_front.placed.channels).channels; nb_meta = old_front.placed.channels.nb_meta_channels }
  pub kept_regions : layout_of front.placed.channels ≡ record { regions = take (length (list_of old_front.placed.channels).channels - n) (layout_of old_front.placed.channels).regions; buffers = old_front.placed.channels.buffers }
  pub list : list_of new.channels ≡ record { channels = (list_of old.channels).channels ++ drop (length (list_of old_front.placed.channels).channels - n) (list_of old_front.placed.channels).channels; nb_meta = old.channels.nb_meta_channels }
  pub layout : layout_of new.channels ≡ record { regions = (layout_of old.channels).regions ++ drop (length (list_of old_front.placed.channels).channels - n) (layout_of old_front.placed.channels).regions; buffers = old.channels.buffers }
  pub rest : KeepsRest old new
  pub front_rest : KeepsRest old_front.placed front.placed
  pub count : front.count ≡ old_front.count

-- steps took a front and a list to these
pub record FrontGoesOn (steps : List Step) (old_front : Front) (old : PlacedChannels) (front : Front) (new : PlacedChannels) : Type 0 where
  pub stands : IsFrontOf new front
  pub undos : undos_of front.placed.undoings.items ≡ undos_of old_front.placed.undoings.items ++ undo_of_all steps (layout_with old_front old)
  pub layout : layout_with front new ≡ layout_after_all steps (layout_with old_front old)
  pub rest : KeepsRest old new
  pub count : front.count ≡ old_front.count
