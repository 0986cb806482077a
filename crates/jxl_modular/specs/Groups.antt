-- The parts of an image that is cut into groups (ISO/IEC 18181-1, frame: groups, LF groups, passes; Modular: groups).
use Rattle.std.specs.Prelude.{◌≡◌, ◌≢◌, ℕ, ℤ, List, Bool, IsTrue, Result}
use Rattle.std.specs.Int.{Width}
use Rattle.jxlm_bits.specs.Decoding.{Meaning}
use Rattle.jxlm_base.specs.Grid.{Grid}
use Rattle.jxlm_base.specs.Regions.{grids_in, store_meanings}
use Rattle.jxlm_bits.specs.declared.error.Error.{Error}
use Rattle.jxlm_base.specs.declared.subgrid.Region.{Region}
use Rattle.jxlm_transform.specs.Channels.{Channel}
use Rattle.jxlm_groups.specs.Counts.{exists}
use Rattle.jxlm_groups.specs.Cutting.{can_cut}
use Rattle.jxlm_groups.specs.Parts.{AreAllApart, HoldEachCellOnce}
use Rattle.jxlm_groups.specs.Passes.{can_group}
use Rattle.jxlm_groups.specs.Pieces.{in_store, part_channels, pieces}
use Rattle.jxlm_groups.specs.declared.part.SectionPart.{SectionPart}
use Rattle.jxlm_groups.specs.declared.pass.Pass.{Pass}
use Rattle.jxlm_samples.specs.Part.{Part}
use Rattle.jxl_modular.specs.Image.{Image, coded_list}
use Rattle.jxl_modular.specs.Parts.{HeldGives}

module _ {S D : Type 0} (x : Image S D) (passes : List Pass) where
  -- the image can be cut into groups by these passes, and no channel's groups have a side of 0
  pub record IsCut : Type 0 where
    pub groups : IsTrue (can_group passes x.given)
    pub cells : IsTrue (can_cut x.group_dim (coded_list x))

  -- there is such a part
  abbrev pub Exists : SectionPart → Type 0
  Exists part = IsTrue (exists x.group_dim passes (coded_list x) part)

  -- the regions of a part in the coded channels, and in the store
  abbrev pub pieces_of : SectionPart → List Region
  pieces_of part = pieces x.group_dim passes (coded_list x) part

  abbrev pub held_in : SectionPart → List Region
  held_in part = in_store x.coded (pieces_of part)

  -- its channels
  abbrev pub channels_in : SectionPart → List Channel
  channels_in part = part_channels x.group_dim passes (coded_list x) part

  -- the part, read with this stream index
  abbrev pub part_in : SectionPart → ℕ → Part
  part_in part stream = record { channels = channels_in part; weights = x.weights; tree = x.config.tree; stream = stream }

  -- each coded cell is in exactly one part, and no two parts share a cell of the image's buffers
  pub record HasEachCellOnce : Type 0 where
    pub once : HoldEachCellOnce x.group_dim passes (coded_list x)
    pub apart : (one other : SectionPart) → one ≢ other → AreAllApart (held_in one) (held_in other)

module _ {S D : Type 0} (to_int : S → ℤ) (passes : List Pass) where
  -- the grids of a part, of the numbers that the samples stand for
  abbrev pub part_grids : Image S D → SectionPart → List (Grid ℤ)
  part_grids x part = grids_in (held_in x passes part) (store_meanings to_int x.store)

  -- the grids of each other part are as before
  abbrev pub KeepsOtherGrids : SectionPart → Image S D → Image S D → Type 0
  KeepsOtherGrids part old new = (other : SectionPart) → other ≢ part → part_grids new other ≡ part_grids old other

-- what decoding a part of an image returns
abbrev pub PartOfGives : {S D : Type 0} → Meaning D → Width → (S → ℤ) → List ℕ → ℕ → List Pass → SectionPart → Image S D → ℕ → Bool → ℕ → Image S D → ℕ → Bool → ℕ → Bool → Result (Unit {0}) Error → Type 0
PartOfGives d w to_int bytes stream passes part old p partial before new q still after allow result =
    HeldGives d w to_int bytes (part_in old passes part stream) (held_in old passes part) old p partial before new q still after allow result
