-- What the predictors' state is set for in each channel of a part, and where it is.
use Rattle.std.specs.Prelude.{◌≡◌, ℕ, zero, suc, ◌+◌, ◌<◌, ℤ, List, [], length, map, take, get_or, slice_get, Bool, false, if◌then◌else◌, Option, Some, None}
use Rattle.std.specs.Option.{option_map_or}
use Rattle.jxlm_base.specs.Grid.{Grid}
use Rattle.jxlm_base.specs.Regions.{region, grid_of, store_meanings}
use Rattle.jxlm_base.specs.declared.subgrid.Region.{Region}
use Rattle.jxlm_predictor.specs.Standing.{Setting, StandsAt, setting}
use Rattle.jxlm_weighted.specs.declared.weights.WpHeader.{WpHeader}
use Rattle.jxlm_predictor.specs.declared.state.PredictorState.{PredictorState}
use Rattle.jxlm_samples.specs.Part.{earlier_alike}
use Rattle.jxlm_samples.specs.Reading.{HasRoom, IsCodingOf, alone_at, part_of, regions_of}
use Rattle.jxlm_samples.specs.declared.coding.ChannelTree.{ChannelTree}
use Rattle.jxlm_samples.specs.declared.coding.PartCoding.{PartCoding}

-- region i of a list
abbrev pub region_at : List Region → ℕ → Region
region_at regions i = get_or regions i (region 0 0 0 0 0)

-- the earlier channels that a tree is given that may ask for n of them: none where n is 0, else all
abbrev pub earlier_for : {X : Type 0} → ℕ → List X → List X
earlier_for zero earlier = []
earlier_for (suc n) earlier = earlier

module _ {D : Type 0} where
  -- the regions of the channels before channel i that are like it, the nearest first
  abbrev pub all_alike : PartCoding D → ℕ → List Region
  all_alike c i = map (region_at (regions_of c)) (earlier_alike (part_of c).channels i)

  -- how many earlier channels the tree of channel i may ask for
  abbrev pub asked_at : PartCoding D → ℕ → ℕ
  asked_at c i = option_map_or (λ (t : ChannelTree). t.asked) (slice_get c.flats.now i) 0

  -- whether the tree of channel i may ask for the weights
  abbrev pub weighted_at : PartCoding D → ℕ → Bool
  weighted_at c i = option_map_or (λ (t : ChannelTree). t.weighted) (slice_get c.flats.now i) false

  -- the weights that the state uses in channel i
  abbrev pub weights_at : PartCoding D → ℕ → Option WpHeader
  weights_at c i = if weighted_at c i then Some c.weights else None

  -- those that the state is given
  abbrev pub earlier_regions : PartCoding D → ℕ → List Region
  earlier_regions c i = earlier_for (asked_at c i) (all_alike c i)

  -- what the state is set for in channel i
  abbrev pub setting_of : PartCoding D → ℕ → Setting
  setting_of c i = setting (region_at (regions_of c) i).width (weights_at c i) (earlier_regions c i)

  module _ {X : Type 0} where
    -- the state is at the cell after the first n of channel i
    abbrev pub StandsAfter : PartCoding D → (X → ℤ) → List (Grid X) → ℕ → ℕ → PredictorState X → Type 0
    StandsAfter c to_int store i n state =
        StandsAt state (setting_of c i)
        (take n (grid_of (store_meanings to_int store) (region_at (regions_of c) i)).cells)

    -- the state is at some cell of channel i
    pub record StandsIn (c : PartCoding D) (i : ℕ) (state : PredictorState X) : Type 0 where
      pub before : List ℤ
      pub stands : StandsAt state (setting_of c i) before

    -- of the channels before channel i, the state was last in the one before, where that has cells and is read in it
    abbrev pub IsAfterChannel : PartCoding D → ℕ → PredictorState X → Type 0
    IsAfterChannel c i state =
        (last : ℕ) → i ≡ last + 1 → 0 < (region_at (regions_of c) last).width →
        0 < (region_at (regions_of c) last).height → alone_at c last ≡ None → StandsIn c last state

    -- channel i has cells and is next: the state has room for it, and was last in the channel before
    pub record IsNext (c : PartCoding D) (i : ℕ) (state : PredictorState X) : Type 0 where
      pub channel : i < length (regions_of c)
      pub columns : 0 < (region_at (regions_of c) i).width
      pub rows : 0 < (region_at (regions_of c) i).height
      pub coding : IsCodingOf c
      pub roomy : HasRoom c state
      pub last : IsAfterChannel c i state
