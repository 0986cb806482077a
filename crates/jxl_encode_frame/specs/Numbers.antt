-- Sections by their numbers (ISO/IEC 18181-1, frame: table of contents, sections).
use Rattle.std.specs.Prelude.{◌≡◌, ◌≢◌, ℕ, ◌<◌, List, map, Option, Some, true}
use Rattle.std.specs.Global.{Vec}
use Rattle.jxlm_groups.specs.declared.part.SectionPart.{SectionPart}
use Rattle.jxl_codestream.specs.Layouts.{Layout, has_part, section_count_of, section_number, stream_index}
use Rattle.jxl_lossless.specs.Sections.{section_of}

-- The frame has this part, and a section for it.
pub record HasNumber (l : Layout) (part : SectionPart) : Type 0 where
  pub has : has_part l part ≡ true
  pub below : section_number l part < section_count_of l

-- the section of a part among these, with its stream
abbrev pub section_among : Layout → List (Vec ℕ) → SectionPart → Option (List ℕ × ℕ)
section_among l sections part = section_of l (map (λ v. v.items) sections) part

-- it has these bytes, and the stream of the part
abbrev pub IsFound : Layout → List (Vec ℕ) → SectionPart → List ℕ → Type 0
IsFound l sections part bytes = section_among l sections part ≡ Some (bytes, stream_index l part)

-- the section of each other part is as before
abbrev pub KeepsOthers : Layout → SectionPart → List (Vec ℕ) → List (Vec ℕ) → Type 0
KeepsOthers l part old new = (other : SectionPart) → other ≢ part → section_among l new other ≡ section_among l old other
