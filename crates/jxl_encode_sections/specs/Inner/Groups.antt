-- The groups of a frame: their tokens, and their sections (ISO/IEC 18181-1, frame: groups, sections).
use Rattle.std.specs.Prelude.{◌≡◌, ◌≢◌, ℕ, ◌<◌, List, [], length, true, Some, Contains}
use Rattle.std.specs.Global.{Vec}
use Rattle.std.specs.Int.{Width}
use Rattle.std.specs.List.{All}
use Rattle.jxlm_groups.specs.Parts.{part_in}
use Rattle.jxlm_groups.specs.Pieces.{part_channels}
use Rattle.jxlm_groups.specs.declared.part.Kind.{Kind}
use Rattle.jxlm_groups.specs.declared.part.SectionPart.{SectionPart}
use Rattle.jxlm_groups.specs.declared.part.SectionPart.TheVariants as parts
use Rattle.jxlm_groups.specs.declared.pass.Pass.{Pass}
use Rattle.jxlm_samples.specs.Part.{cell_count}
use Rattle.jxlm_transform.specs.Channels.{ChannelList}
use Rattle.jxlm_tree.specs.Tree.{Shape}
use Rattle.jxlm_ma_tree.specs.declared.leaf.Leaf.{Leaf}
use Rattle.jxl_codestream.specs.Layouts.{Layout, has_part, stream_index}
use Rattle.jxl_coding.specs.Symbols.{Codes}
use Rattle.jxl_encode_frame.specs.Numbers.{HasNumber, IsFound, KeepsOthers, section_among}
use Rattle.jxl_encode_sections.specs.Sections.{AreBehindHeader}
use Rattle.jxl_encode_sections.specs.Inner.Parts.{AreTokensIn, CodedSamples}
use Rattle.jxl_encode_sections.specs.declared.parts.PartTokens.{PartTokens}

-- these are the tokens of the part, in its stream
abbrev pub HaveTokens : Width → ℕ → List Pass → CodedSamples → Shape Leaf → Layout → PartTokens → Type 0
HaveTokens w group_dim passes coded tree l p = AreTokensIn w group_dim passes coded tree p.part (stream_index l p.part) p.tokens.items

-- These parts are groups that have a section of their own, and each group with samples is among them.
pub record AreGroupsOf (group_dim : ℕ) (passes : List Pass) (list : ChannelList) (l : Layout) (groups : List SectionPart) : Type 0 where
  pub numbers : All (HasNumber l) groups
  pub others : All (λ part. part ≢ parts.Global) groups
  pub each : (part : SectionPart) → part ≢ parts.Global → 0 < cell_count (part_channels group_dim passes list part) → Contains groups part

-- The section of a group was put into its place: a header without transforms, and the samples of each part that has its tokens.
pub record IsGroupOf (codes : Codes) (l : Layout) (group : PartTokens) (old new : List (Vec ℕ)) : Type 0 where
  pub bytes : List ℕ
  pub found : IsFound l new group.part bytes
  pub others : KeepsOthers l group.part old new
  pub count : length new ≡ length old
  pub end : ℕ
  pub samples : AreBehindHeader codes [] group.tokens.items bytes 0 end

-- The section of this part has the samples of one of these groups, which is of this part.
pub record HasSection (codes : Codes) (l : Layout) (groups : List PartTokens) (sections : List (Vec ℕ)) (part : SectionPart) : Type 0 where
  pub own : PartTokens
  pub among : Contains groups own
  pub is : own.part ≡ part
  pub bytes : List ℕ
  pub found : section_among l sections part ≡ Some (bytes, stream_index l part)
  pub end : ℕ
  pub samples : AreBehindHeader codes [] own.tokens.items bytes 0 end

-- The first groups of a kind were added, as far as the frame has them: those that were there stay, and each has a section.
pub record AreMoreGroups (l : Layout) (kind : Kind) (count : ℕ) (old new : List SectionPart) : Type 0 where
  pub numbers : All (HasNumber l) old → All (HasNumber l) new
  pub others : All (λ part. part ≢ parts.Global) old → All (λ part. part ≢ parts.Global) new
  pub kept : (part : SectionPart) → Contains old part → Contains new part
  pub added : (k : ℕ) → k < count → has_part l (part_in kind k) ≡ true → Contains new (part_in kind k)
