-- How deep the trees of a frame's sections are, as the code compares them.
use Rattle.std.specs.Prelude.{◌≡◌, ℕ, ◌⊎◌, List, Any, Bool, true, false, MatchBool, Option, Ok}
use Rattle.std.specs.List.{All}
use Rattle.jxlm_bits.specs.Bits.{bytes_of, position_of}
use Rattle.jxlm_bits.specs.Decoding.{Meaning}
use Rattle.jxlm_groups.specs.declared.part.SectionPart.{SectionPart}
use Rattle.jxlm_groups.specs.declared.pass.Pass.{Pass}
use Rattle.jxlm_header.specs.Opening.{Opening}
use Rattle.jxlm_nested.specs.Starts.{opening_at}
use Rattle.jxlm_transform.specs.Channels.{ChannelList}
use Rattle.jxlm_tree.specs.Tree.{Config}
use Rattle.jxlm_tree_depth.specs.Depths.{IsDeepAt, IsShallowAt, UsesGlobalAt}
use Rattle.jxlm_tree_depth.specs.Openings.{list_of_part}
use Rattle.jxl_modular.specs.declared.sections.Section.{Section}

-- a section with a header of its own uses the global tree
abbrev pub UsesGlobal : Section → Type 0
UsesGlobal s = s.nested ≡ true → UsesGlobalAt (bytes_of s.bits) (position_of s.bits)

-- the channels of parts, as headers of their own find them
module _ {D : Type 0} (d : Meaning D) (global : Option (Config D)) (list : SectionPart → ChannelList) (deepest : ℕ) where
  -- the tree of the header at the begin of a section is its own, and deeper than this
  abbrev pub IsDeep : Section → Type 0
  IsDeep s = IsDeepAt d global (list s.part) deepest (bytes_of s.bits) (position_of s.bits)

  -- it is not, or header or tree has an error
  abbrev pub IsShallow : Section → Type 0
  IsShallow s = IsShallowAt d global (list s.part) deepest (bytes_of s.bits) (position_of s.bits)

  -- what the comparison of the tree of a section says, if it has a header of its own
  abbrev pub SectionSays : Section → Bool → Type 0
  SectionSays s b = MatchBool b ((s.nested ≡ true) × IsDeep s) (s.nested ≡ true → IsShallow s)

  -- the same of sections
  abbrev pub SectionsSay : List Section → Bool → Type 0
  SectionsSay ss b = MatchBool b (Any (λ s. (s.nested ≡ true) × IsDeep s) ss) (All (λ s. s.nested ≡ true → IsShallow s) ss)

  -- and of a header for these channels before them
  abbrev pub DepthsSay : ChannelList → List ℕ → ℕ → List Section → Bool → Type 0
  DepthsSay given bytes p ss b =
      MatchBool b (IsDeepAt d global given deepest bytes p ⊎ SectionsSay ss true) (IsShallowAt d global given deepest bytes p × SectionsSay ss false)

-- the same of the header of an image at bit p, if there is one, and of the sections of its groups
abbrev pub TreesSay : {D : Type 0} → Meaning D → Option (Config D) → ChannelList → ℕ → List ℕ → ℕ → List Pass → ℕ → List Section → Bool → Type 0
TreesSay d global given group_dim bytes p passes deepest ss b = (head : Opening) (q : ℕ) →
    opening_at global bytes given p ≡ Ok (record { value = head; position = q }) →
    DepthsSay d global (list_of_part group_dim passes head.coded.list) deepest given bytes p ss b
