-- The groups of a frame, its sections and the streams of their parts (ISO/IEC 18181-1, table of contents, stream index).
use Rattle.std.specs.Prelude.{ℕ, ◌+◌, ◌-◌, ◌*◌, ◌/◌, ◌==◌, ◌&&◌, ◌<◌, ◌≤◌, nat_le, nat_lt, if◌then◌else◌, Bool, true, Option, Some, None}
use Rattle.jxlm_groups.specs.declared.part.SectionPart.{SectionPart}
use Rattle.jxlm_groups.specs.declared.part.SectionPart.TheVariants as parts
use Rattle.jxl_image_header.specs.declared.size.Size.{Size}

-- how many groups of this side a frame is cut into; the last of a row and of a column may be smaller
abbrev pub groups_of : Size → ℕ → ℕ
groups_of size dim = (size.width + dim - 1) / dim * ((size.height + dim - 1) / dim)

-- what a frame is cut into: its groups, those of low frequencies, which are 8 times as wide and as high, and its passes
pub record Layout : Type 0 where
  pub groups : ℕ
  pub lf_groups : ℕ
  pub passes : ℕ

abbrev pub layout_of : Size → ℕ → ℕ → Layout
layout_of size dim passes = record { groups = groups_of size dim; lf_groups = groups_of size (8 * dim); passes = passes }

-- how many sections there are: one where there is one group and one pass; else the global part, each group of low
-- frequencies, the global part of high frequencies, and each group of each pass
abbrev pub section_count_of : Layout → ℕ
section_count_of l = if (l.groups == 1) && (l.passes == 1) then 1 else 2 + l.lf_groups + l.passes * l.groups

-- a frame that is cut in this way has this part
abbrev pub has_part : Layout → SectionPart → Bool
has_part l parts.Global = true
has_part l (parts.Lf group) = nat_lt group l.lf_groups
has_part l (parts.Pass pass group) = nat_lt pass l.passes && nat_lt group l.groups

-- the number of the section of a part, where there is more than one section: behind the global part come the groups of low
-- frequencies, the global part of high frequencies, and the passes, group by group
abbrev pub section_number : Layout → SectionPart → ℕ
section_number l parts.Global = 0
section_number l (parts.Lf group) = 1 + group
section_number l (parts.Pass pass group) = 2 + l.lf_groups + pass * l.groups + group

-- the stream index of the samples of a part
abbrev pub stream_index : Layout → SectionPart → ℕ
stream_index l parts.Global = 0
stream_index l (parts.Lf group) = 1 + l.lf_groups + group
stream_index l (parts.Pass pass group) = 18 + 3 * l.lf_groups + pass * l.groups + group

-- the most sections that are supported
abbrev pub max_sections : ℕ
max_sections = 16777216

abbrev pub layout_if : Layout → Option Layout
layout_if l = if nat_le (section_count_of l) max_sections then Some l else None

-- what is true of each of them
pub record IsLayout (l : Layout) : Type 0 where
  pub passes : 0 < l.passes
  pub lf : l.lf_groups ≤ l.groups
  pub sections : section_count_of l ≤ max_sections
