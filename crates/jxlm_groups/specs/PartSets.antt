-- Sets of parts (ISO/IEC 18181-1, frame: groups, LF groups and passes).
use Rattle.std.specs.Prelude.{ℕ, List, IsTrue}
use Rattle.std.specs.BTreeSet.{BTreeSet, contains}
use Rattle.std.specs.declared.cmp.Ordering.{Ordering}
use Rattle.jxlm_transform.specs.Channels.{ChannelList}
use Rattle.jxlm_groups.specs.Parts.{HaveCell}
use Rattle.jxlm_groups.specs.Passes.{Pass}
use Rattle.jxlm_groups.specs.Pieces.{SectionPart, pieces}
use Rattle.jxlm_groups.specs.contracts.part.SectionPartOrd.TheImpl as derived

-- the order in which a set keeps parts
abbrev pub part_order : SectionPart → SectionPart → Ordering
part_order = (derived.ghosts).cmp

-- a set has a part
abbrev pub Holds : BTreeSet SectionPart → SectionPart → Type 0
Holds set part = IsTrue (contains part_order set part)

-- a set has each part with cells
abbrev pub HoldsEach : ℕ → List Pass → ChannelList → BTreeSet SectionPart → Type 0
HoldsEach dim passes l set = (part : SectionPart) (n x y : ℕ) → HaveCell (pieces dim passes l part) n x y → Holds set part
