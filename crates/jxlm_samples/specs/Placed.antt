-- A part whose channels lie in a store of grids.
use Rattle.std.specs.Prelude.{◌≤◌, ℕ, ℤ, List, length, Bool}
use Rattle.std.specs.List.{All}
use Rattle.jxlm_base.specs.Grid.{Grid}
use Rattle.jxlm_base.specs.Regions.{AllLie, LieApart, grids_in, store_meanings}
use Rattle.jxlm_base.specs.declared.subgrid.Region.{Region}
use Rattle.jxlm_transform.specs.Channels.{AreRegionsOf, IsNarrow, infos, regions}
use Rattle.jxlm_weighted.specs.SelfCorrecting.{IsHeader}
use Rattle.jxlm_tree.specs.Steps.{most_steps as most_steps_of}
use Rattle.jxlm_samples.specs.Decode.{Standing}
use Rattle.jxlm_samples.specs.Part.{Part}
use Rattle.jxlm_samples.specs.declared.part.PlacedPart.{PlacedPart}

module _ {D : Type 0} where
  -- what is coded in the part
  abbrev pub part_placed : PlacedPart D → Part
  part_placed p = record { channels = infos p.channels.now; weights = p.weights; tree = p.config.now.tree; stream = p.stream_index }

  -- the maximum number of steps to a leaf of its tree
  abbrev pub most_steps : PlacedPart D → ℕ
  most_steps p = most_steps_of p.config.now.tree

  -- Its channels are narrow and at most 65536, and have the sizes of their regions, which lie in the store and share no
  -- cell; its weights are those of a header.
  pub record PartLies {X : Type 0} (p : PlacedPart D) (store : List (Grid X)) : Type 0 where
    pub sizes : AreRegionsOf (infos p.channels.now) (regions p.channels.now)
    pub narrow : All IsNarrow (infos p.channels.now)
    pub few : length p.channels.now ≤ 65536
    pub weights : IsHeader p.weights
    pub lie : AllLie (regions p.channels.now) store
    pub apart : LieApart (regions p.channels.now)

-- what decoding changes of these regions of a store, with the reader's position and whether the part is partial
abbrev pub standing_in : {X : Type 0} → (X → ℤ) → List Region → List (Grid X) → ℕ → Bool → Standing
standing_in to_int regions store p partial = record { position = p; grids = grids_in regions (store_meanings to_int store); partial = partial }
