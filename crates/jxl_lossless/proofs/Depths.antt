-- What the comparison of trees with the limit says.
use Rattle.std.proofs.Common.{◌≡◌, ◌∙◌, zero, suc, inl, inr, Bool, true, false, not, IsTrue, ℕ, List, ◌∷◌, Option, Some, None, is_some, Result, Ok, Err, ap, refl, subst, sym, arith}
use Rattle.std.specs.Prelude.{Any, IfOk, ◌↔◌}
use Rattle.std.specs.List.{All}
use Rattle.jxlm_bits.specs.Bits.{bytes_of, position_of}
use Rattle.jxlm_bits.specs.Decoding.{Found, Meaning}
use Rattle.jxlm_bits.specs.ErrorKind.{ErrorAt}
use Rattle.jxlm_groups.specs.declared.part.SectionPart.{SectionPart}
use Rattle.jxlm_groups.specs.declared.pass.Pass.{Pass}
use Rattle.jxlm_header.specs.Opening.{Opening}
use Rattle.jxlm_nested.specs.Starts.{opening_at}
use Rattle.jxlm_transform.specs.Channels.{ChannelList}
use Rattle.jxlm_transform.specs.Lists.{list_of}
use Rattle.jxlm_tree.specs.Tree.{Config}
use Rattle.jxlm_tree_depth.specs.Depths.{DepthSays, IsShallowAt}
use Rattle.jxlm_tree_depth.specs.Openings.{OpensCoded, list_of_part}
use Rattle.jxlm_tree_depth.specs.declared.channels.CodedChannels.{CodedChannels}
use Rattle.jxlm_tree_depth.proofs.Depths.{never}
use Rattle.jxl_modular.specs.declared.sections.Section.{Section}
use Rattle.jxl_lossless.specs.Inner.Depths.{DepthsSay, SectionSays, SectionsSay, TreesSay, UsesGlobal}

-- a section with a header of its own is not the first one, which has none
pub among_more : (P : Section → Type 0) (first : Section) (more : List Section) → first.nested ≡ false → Any (λ s. (s.nested ≡ true) × P s) (first ∷ more) → Any (λ s. (s.nested ≡ true) × P s) more
among_more P first more none (zero, s, lt, at, is) = never (sym is.0 ∙ ap (λ (t : Section). t.nested) (sym at) ∙ none)
among_more P first more none (suc k, s, lt, at, is) = (k, s, omega (arith, lt), at, is)

found_same : (x y : Found Opening) → ◌≡◌ {A = Result (Found Opening) ErrorAt} (Ok x) (Ok y) → x ≡ y
found_same x y e = cc

-- a header has one reading
pub one_head : (r : Result (Found Opening) ErrorAt) (x y : Opening) (p q : ℕ) → r ≡ Ok (record { value = x; position = p }) → r ≡ Ok (record { value = y; position = q }) → x ≡ y
one_head r x y p q e f = ap (λ (o : Found Opening). o.value) (found_same (record { value = x; position = p }) (record { value = y; position = q }) (sym e ∙ f))

-- and no error
pub no_head : (r : Result (Found Opening) ErrorAt) (e : ErrorAt) (f : Found Opening) → r ≡ Err e → r ≡ Ok f → ⊥
no_head r e f is has = none e f (sym is ∙ has) where
  none : (e : ErrorAt) (f : Found Opening) → ◌≡◌ {A = Result (Found Opening) ErrorAt} (Err e) (Ok f) → ⊥
  none e f same = cc

-- a flag that is not set does not hold
pub unflagged : (b : Bool) {P : Type 0} → IsTrue b ↔ P → not b ≡ false → P
unflagged true flag e = flag.0 refl
unflagged false flag e = never e

module _ {D : Type 0} (d : Meaning D) (global : Option (Config D)) (list : SectionPart → ChannelList) (deepest : ℕ) where
  -- sections that use the global tree have no tree that is too deep
  pub all_global : (ss : List Section) → All UsesGlobal ss → SectionsSay d global list deepest ss false
  all_global ss uses = λ k s lt nested. inl (uses k s lt nested)

  -- what the header of a section says
  pub section_says : {E : Type 0} (s : Section) (result : Result Bool E) → s.nested ≡ true →
      IfOk result (DepthSays d global (list s.part) deepest (bytes_of s.bits) (position_of s.bits)) → IfOk result (SectionSays d global list deepest s)
  section_says s (Ok true) nested says = (nested, says)
  section_says s (Ok false) nested says = λ also. says
  section_says s (Err e) nested says = tt

  -- what the sections say, where the image's header has no such tree
  all_say : (given : ChannelList) (bytes : List ℕ) (p : ℕ) (ss : List Section) (b : Bool) → IsShallowAt d global given deepest bytes p →
      SectionsSay d global list deepest ss b → DepthsSay d global list deepest given bytes p ss b
  all_say given bytes p ss true low says = inr says
  all_say given bytes p ss false low says = (low, says)

module _ {D : Type 0} (d : Meaning D) (global : Option (Config D)) (given : ChannelList) (group_dim : ℕ) (bytes : List ℕ) (p : ℕ) (passes : List Pass) (deepest : ℕ) (ss : List Section) where
  -- the same by the coded channels of the image's header
  pub coded_say : {E : Type 0} (coded : CodedChannels) (result : Result Bool E) → OpensCoded (is_some global) given group_dim passes bytes p (Some coded) → IsShallowAt d global given deepest bytes p →
      IfOk result (SectionsSay d global (list_of_part coded.group_dim coded.passes.items (list_of coded.channels)) deepest ss) → IfOk result (TreesSay d global given group_dim bytes p passes deepest ss)
  coded_say coded (Err e) opens low says = tt
  coded_say coded (Ok b) opens low says = λ head q e.
      let (own, at, reads, list, dim, by) = opens in
      let same : own ≡ head = one_head (opening_at global bytes given p) own head at q reads e in
      let here : SectionsSay d global (list_of_part group_dim passes head.coded.list) deepest ss b =
      subst (λ (h : Opening). SectionsSay d global (list_of_part group_dim passes h.coded.list) deepest ss b) same
      (subst (λ (l : ChannelList). SectionsSay d global (list_of_part group_dim passes l) deepest ss b) list
      (subst (λ (ps : List Pass). SectionsSay d global (list_of_part group_dim ps (list_of coded.channels)) deepest ss b) by
      (subst (λ n. SectionsSay d global (list_of_part n coded.passes.items (list_of coded.channels)) deepest ss b) dim says))) in
      all_say d global (list_of_part group_dim passes head.coded.list) deepest given bytes p ss b low here

  -- where the image's header has an error nothing is compared
  pub none_say : (b : Bool) → OpensCoded (is_some global) given group_dim passes bytes p None → TreesSay d global given group_dim bytes p passes deepest ss b
  none_say b (error, is) = λ head q e. absurd (no_head (opening_at global bytes given p) error (record { value = head; position = q }) is e)

-- what comparing says of equal channels, sides, sections and answers
pub same_trees : {D : Type 0} (d : Meaning D) (global : Option (Config D)) (l m : ChannelList) (dim side : ℕ) (bytes : List ℕ) (p : ℕ) (passes : List Pass) (deepest : ℕ) (ss ts : List Section) (b c : Bool) →
    l ≡ m → dim ≡ side → ss ≡ ts → b ≡ c → TreesSay d global l dim bytes p passes deepest ss b → TreesSay d global m side bytes p passes deepest ts c
same_trees d global l m dim side bytes p passes deepest ss ts b c el ed es eb h =
    subst (λ x. TreesSay d global m side bytes p passes deepest ts x) eb
    (subst (λ (xs : List Section). TreesSay d global m side bytes p passes deepest xs b) es
    (subst (λ n. TreesSay d global m n bytes p passes deepest ss b) ed
    (subst (λ (x : ChannelList). TreesSay d global x dim bytes p passes deepest ss b) el h)))
