-- The sections of a frame, by the parts that they hold (ISO/IEC 18181-1, frame: passes, sections).
use Rattle.std.specs.Prelude.{ℕ, List, map, Option}
use Rattle.std.specs.Borrow.{Bor}
use Rattle.jxlm_groups.specs.Passes.{passes_of}
use Rattle.jxlm_groups.specs.declared.part.SectionPart.{SectionPart}
use Rattle.jxlm_groups.specs.declared.pass.Pass.{Pass}
use Rattle.jxl_codestream.specs.LayoutParts.{parts_of}
use Rattle.jxl_lossless.specs.Sections.{section_of}
use Rattle.jxl_lossless.specs.declared.still.places.Places.{Places}

-- the passes that the frame comes in
abbrev pub own_passes : Places → List Pass
own_passes x = passes_of x.passes.now.entries

-- the bytes that are lent
abbrev pub lent : List (Bor (List ℕ)) → List (List ℕ)
lent sections = map (λ s. s.now) sections

-- the bytes of the section of a part, and the index of its stream, where the frame has it
abbrev pub section_at : Places → SectionPart → Option (List ℕ × ℕ)
section_at x part = section_of (parts_of x.layout.now) (lent x.sections.now) part
