-- The parts of sections, in a set.
use Rattle.std.specs.Prelude.{◌≡◌, ◌↔◌, Any, List}
use Rattle.std.specs.BTreeSet.{BTreeSet}
use Rattle.jxlm_groups.specs.PartSets.{Holds}
use Rattle.jxlm_groups.specs.declared.part.SectionPart.{SectionPart}
use Rattle.jxl_modular.specs.Sections.{Section}

-- a set has exactly the parts of the sections
abbrev pub HoldsParts : BTreeSet SectionPart → List Section → Type 0
HoldsParts set sections = (part : SectionPart) → Holds set part ↔ Any (λ s. s.part ≡ part) sections
