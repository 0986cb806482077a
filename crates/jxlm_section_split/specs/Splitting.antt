-- What splitting the bytes of an image into its sections gives (ISO/IEC 18181-1, frame: sections).
use Rattle.std.specs.Prelude.{◌≡◌, ℕ, ◌+◌, ◌%◌, ◌^◌, ◌<◌, List, [], ◌∷◌, ◌++◌, length, map, slice_index_or, true, false, ◌⊎◌, IsFalse, IsTrue}
use Rattle.jxlm_bits.specs.Bits.{position_of}
use Rattle.jxlm_bits.specs.ErrorKind.{BadSqueeze, Eof, UnlessNoMemory, kind_of}
use Rattle.jxlm_bits.specs.declared.bits.Bitstream.{Bitstream}
use Rattle.jxlm_bits.specs.declared.error.Error.{Error}
use Rattle.jxlm_groups.specs.Cutting.{can_cut}
use Rattle.jxlm_groups.specs.declared.part.SectionPart.{SectionPart}
use Rattle.jxlm_groups.specs.declared.part.SectionPart.TheVariants as parts
use Rattle.jxl_modular.specs.Image.{Image, coded_list}
use Rattle.jxl_modular.specs.declared.sections.Section.{Section}
use Rattle.jxlm_section_split.specs.CutErrors.{EndsEarly}
use Rattle.jxlm_section_split.specs.CutPicture.{StandBefore, groups_in_order}

-- The section is that of the global part: it has no header of its own.
pub record IsOfGlobal (s : Section) : Type 0 where
  pub part : s.part ≡ parts.Global
  pub stream : s.stream_index ≡ 0
  pub nested : s.nested ≡ false

-- Section n of all is that of a group: it begins with a header of its own, and its stream index is n.
pub record IsOfGroup (n : ℕ) (s : Section) : Type 0 where
  pub stream : s.stream_index ≡ n % 2 ^ 32
  pub begins : position_of s.bits ≡ 0
  pub nested : s.nested ≡ true

-- sections of groups, numbered from n on
abbrev pub AreOfGroups : ℕ → List Section → Type 0
AreOfGroups n sections = (k : ℕ) (d : Section) → k < length sections → IsOfGroup (n + k) (slice_index_or sections k d)

-- Behind the sections before stand more now, of these parts, and the bytes that were left have these and then the rest.
pub record AreAdded (parts : List SectionPart) (before : List Section) (left : List ℕ) (after : List Section) (rest : List ℕ) : Type 0 where
  pub more : List Section
  pub in_order : after ≡ before ++ more
  pub parts_are : map (λ s. s.part) more ≡ parts
  pub stand : StandBefore left more rest
  pub groups : AreOfGroups (length before) more

-- These are the sections of an image: that of the global part goes on after the header, and the others stand in the
-- bytes that were left.
pub record AreRead {S D : Type 0} (x : Image S D) (first : Bitstream) (left : List ℕ) (sections : List Section) : Type 0 where
  pub global : Section
  pub of_global : IsOfGlobal global
  pub goes_on : global.bits ≡ first
  pub rest : List ℕ
  pub added : AreAdded (groups_in_order x) (global ∷ []) left sections rest

-- Reading the sections of an image fails: a group has a side of 0, or a section is truncated, or it is out of memory.
abbrev pub ReadingFails : {S D : Type 0} → Image S D → List ℕ → Error → Type 0
ReadingFails x left e = UnlessNoMemory (kind_of e)
    (((kind_of e ≡ BadSqueeze) × IsFalse (can_cut x.group_dim (coded_list x)))
    ⊎ ((kind_of e ≡ Eof) × IsTrue (can_cut x.group_dim (coded_list x)) × EndsEarly (length (groups_in_order x)) left))
