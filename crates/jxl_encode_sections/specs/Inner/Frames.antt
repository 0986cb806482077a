-- The tokens of all parts of a frame, and the sections that have them (ISO/IEC 18181-1, frame: sections).
use Rattle.std.specs.Prelude.{◌≡◌, ℕ, List, length, map, slice_get, Some}
use Rattle.std.specs.Global.{Vec}
use Rattle.std.specs.Int.{Width}
use Rattle.std.specs.List.{All}
use Rattle.jxlm_encode_write.specs.declared.tree.EncodeNode.{EncodeNode}
use Rattle.jxlm_groups.specs.declared.part.SectionPart.TheVariants as parts
use Rattle.jxlm_section_split.specs.CutPicture.{one_pass}
use Rattle.jxlm_transform.specs.Transforms.{Transform}
use Rattle.jxlm_tree.specs.Tree.{Shape}
use Rattle.jxlm_ma_tree.specs.declared.leaf.Leaf.{Leaf}
use Rattle.jxlm_tree.specs.declared.ma.MaConfigParams.{MaConfigParams}
use Rattle.jxl_codestream.specs.Layouts.{Layout, section_count_of}
use Rattle.jxl_coding.specs.Symbols.{Codes}
use Rattle.jxl_encode_tree.specs.Trees.{IsClusteredTree}
use Rattle.jxl_encode_sections.specs.Sections.{IsFirstSection}
use Rattle.jxl_encode_sections.specs.Inner.Groups.{AreGroupsOf, HasSection, HaveTokens}
use Rattle.jxl_encode_sections.specs.Inner.Parts.{AreTokensIn, CodedSamples}
use Rattle.jxl_encode_sections.specs.declared.frame.FrameTokens.{FrameTokens}

-- These are the tokens of the global part, and of each group with samples.
pub record AreTokensOfFrame (w : Width) (group_dim : ℕ) (coded : CodedSamples) (tree : Shape Leaf) (l : Layout) (t : FrameTokens) : Type 0 where
  pub global : AreTokensIn w group_dim one_pass coded tree parts.Global 0 t.global.items
  pub groups : AreGroupsOf group_dim one_pass coded.list l (map (λ p. p.part) t.groups.items)
  pub tokens : All (HaveTokens w group_dim one_pass coded tree l) t.groups.items

-- The first section has the tree and the global part, and each group has its section.
pub record AreWrittenSections (nodes : List EncodeNode) (codes : Codes) (ts : List Transform) (l : Layout) (t : FrameTokens) (sections : List (Vec ℕ)) : Type 0 where
  pub count : length sections ≡ section_count_of l
  pub first : List ℕ
  pub first_is : slice_get (map (λ v. v.items) sections) 0 ≡ Some first
  pub end : ℕ
  pub is_first : IsFirstSection nodes codes ts t.global.items first 0 end
  pub groups : All (λ p. HasSection codes l t.groups.items sections p.part) t.groups.items

-- These sections are by the tokens of the parts, and by codes in these clusters.
abbrev pub AreByTokens : List EncodeNode → List ℕ → List Transform → Layout → FrameTokens → List (Vec ℕ) → Type 0
AreByTokens nodes clusters ts l t sections = (codes : Codes) × (codes.clusters ≡ clusters) × AreWrittenSections nodes codes ts l t sections

-- These sections are by the tokens of a coded image, by a tree that the nodes and clusters list within the limits.
pub record IsFrameOfCoded (w : Width) (group_dim : ℕ) (limits : MaConfigParams) (nodes : List EncodeNode) (clusters : List ℕ) (ts : List Transform) (coded : CodedSamples) (l : Layout) (sections : List (Vec ℕ)) : Type 0 where
  pub tree : Shape Leaf
  pub is_tree : IsClusteredTree nodes clusters limits tree
  pub tokens : FrameTokens
  pub are : AreTokensOfFrame w group_dim coded tree l tokens
  pub by : AreByTokens nodes clusters ts l tokens sections
