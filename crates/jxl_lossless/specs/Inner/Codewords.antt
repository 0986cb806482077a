-- How many codewords the codes of sections' own trees may have, as the code compares them.
use Rattle.std.specs.Prelude.{◌≡◌, ℕ, ◌+◌, ◌<◌, ◌≤◌, List, take, sum, Bool, false, true, MatchBool, Option, Ok, is_some}
use Rattle.std.specs.List.{AllZip}
use Rattle.jxlm_bits.specs.Bits.{bytes_of, position_of}
use Rattle.jxlm_bits.specs.Decoding.{Meaning}
use Rattle.jxlm_groups.specs.declared.part.SectionPart.{SectionPart}
use Rattle.jxlm_groups.specs.declared.pass.Pass.{Pass}
use Rattle.jxlm_header.specs.Opening.{Opening, opening}
use Rattle.jxlm_transform.specs.Channels.{ChannelList}
use Rattle.jxlm_tree.specs.Tree.{Config}
use Rattle.jxlm_tree_depth.specs.Openings.{list_of_part}
use Rattle.jxl_modular.specs.declared.sections.Section.{Section}
use Rattle.jxl_picture.specs.declared.limits.TreeLimits.{TreeLimits}
use Rattle.jxl_lossless.specs.Codewords.{HasCodewords}
use Rattle.jxl_lossless.specs.Inner.Depths.{TreesSay}
use Rattle.jxl_lossless.specs.declared.still.error.FrameError.{FrameError}
use Rattle.jxl_lossless.specs.declared.still.error.FrameError.TheVariants as errors

-- the channels of parts, as headers of their own find them
module _ (list : SectionPart → ChannelList) where
  -- the codes of a section's own tree may have n codewords; a section without a header of its own has none
  abbrev pub SectionHas : Section → ℕ → Type 0
  SectionHas s n = MatchBool s.nested (HasCodewords (list s.part) (bytes_of s.bits) (position_of s.bits) n) (n ≡ 0)

  -- with this number of codewords before them the first of these sections have more than the maximum, or all have no more
  abbrev pub SumSays : ℕ → ℕ → List Section → Bool → Type 0
  SumSays most before ss b = MatchBool b
      ((k : ℕ) × (ns : List ℕ) × AllZip SectionHas (take k ss) ns × (most < before + sum ns))
      ((ns : List ℕ) × AllZip SectionHas ss ns × (before + sum ns ≤ most))

-- the same of the header of an image at bit p, if there is one, and of the sections of its groups
abbrev pub CodewordsSay : Bool → ChannelList → ℕ → List ℕ → ℕ → List Pass → ℕ → List Section → Bool → Type 0
CodewordsSay has_global given group_dim bytes p passes most ss b = (head : Opening) (q : ℕ) →
    (opening has_global given).read bytes p ≡ Ok (record { value = head; position = q }) →
    (own : ℕ) × HasCodewords given bytes p own × SumSays (list_of_part group_dim passes head.coded.list) most own ss b

module _ {D : Type 0} (d : Meaning D) (global : Option (Config D)) (given : ChannelList) (group_dim : ℕ) (bytes : List ℕ) (p : ℕ) (passes : List Pass) (limits : TreeLimits) (ss : List Section) where
  -- the own trees of the header and of the sections are within the limits
  pub record AreWithin : Type 0 where
    pub few : CodewordsSay (is_some global) given group_dim bytes p passes limits.codewords ss false
    pub shallow : TreesSay d global given group_dim bytes p passes limits.depth ss false

  -- which limit they are not within
  abbrev pub AreBeyond : FrameError → Type 0
  AreBeyond errors.TooManyCodewords = CodewordsSay (is_some global) given group_dim bytes p passes limits.codewords ss true
  AreBeyond errors.TooManyDecisions = CodewordsSay (is_some global) given group_dim bytes p passes limits.codewords ss false
      × TreesSay d global given group_dim bytes p passes limits.depth ss true
  AreBeyond errors.OutOfMemory = Unit {0}
  AreBeyond e = ⊥
