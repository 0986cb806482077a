-- Which parts have cells of one channel, and whether a set has them.
use Rattle.std.specs.Prelude.{◌≡◌, ℕ, ◌*◌, ◌<◌, Some}
use Rattle.std.specs.BTreeSet.{BTreeSet}
use Rattle.jxlm_base.specs.declared.subgrid.Region.{Region}
use Rattle.jxlm_transform.specs.Channels.{Channel}
use Rattle.jxlm_groups.specs.Cutting.{Kind, columns, rows}
use Rattle.jxlm_groups.specs.PartSets.{Holds}
use Rattle.jxlm_groups.specs.Pieces.{SectionPart, piece_in}
use Rattle.jxlm_groups.specs.declared.part.Kind.TheVariants as kinds

-- how many parts hold a channel of a kind: the global part alone, or its groups
abbrev pub part_count : ℕ → Kind → Channel → ℕ
part_count dim kinds.Global c = 1
part_count dim kind c = columns dim c * rows dim c

-- a part has cells of channel n, which is of this kind
pub record HasCellsOf (dim : ℕ) (kind : Kind) (n : ℕ) (c : Channel) (part : SectionPart) : Type 0 where
  pub held : Region
  pub is : piece_in dim kind part n c ≡ Some held
  pub wide : 0 < held.width
  pub high : 0 < held.height

-- a set has each part with cells of channel n, which is of this kind
abbrev pub HoldsEachOf : ℕ → Kind → ℕ → Channel → BTreeSet SectionPart → Type 0
HoldsEachOf dim kind n c set = (part : SectionPart) → HasCellsOf dim kind n c part → Holds set part
