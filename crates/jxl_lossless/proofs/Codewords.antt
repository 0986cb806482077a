-- What the comparison of codewords with the limit says.
use Rattle.std.proofs.Common.{◌≡◌, ◌∙◌, ℕ, zero, suc, ◌+◌, inl, inr, Bool, true, false, List, [], ◌∷◌, ◌++◌, Option, None, Some, is_some, take, Result, Ok, Err, ap, refl, subst, sym, arith}
use Rattle.std.specs.Prelude.{IfOk, MatchBool, sum}
use Rattle.std.specs.List.{All, AllZip}
use Rattle.std.proofs.lemmas.List.Elements.{All-head, All-tail}
use Rattle.std.proofs.lemmas.List.Sums.{sum_by-cons, sum_by_push}
use Rattle.jxlm_bits.specs.Bits.{bytes_of, position_of}
use Rattle.jxlm_bits.specs.Decoding.{Meaning}
use Rattle.jxlm_groups.specs.declared.part.SectionPart.{SectionPart}
use Rattle.jxlm_groups.specs.declared.pass.Pass.{Pass}
use Rattle.jxlm_header.specs.Opening.{Opening, opening}
use Rattle.jxlm_transform.specs.Channels.{ChannelList}
use Rattle.jxlm_transform.specs.Lists.{list_of}
use Rattle.jxlm_tree.specs.Tree.{Config}
use Rattle.jxlm_tree_depth.specs.Depths.{OwnTreeIs}
use Rattle.jxlm_tree_depth.specs.Openings.{OpensCoded, list_of_part}
use Rattle.jxlm_tree_depth.specs.declared.channels.CodedChannels.{CodedChannels}
use Rattle.jxlm_tree_depth.proofs.Depths.{never}
use Rattle.jxl_coding.specs.Parse.{decoder_at}
use Rattle.jxl_coding.specs.Tokens.{Entropy, entropy}
use Rattle.jxl_modular.specs.declared.sections.Section.{Section}
use Rattle.jxl_picture.specs.declared.limits.TreeLimits.{TreeLimits}
use Rattle.jxl_lossless.specs.Codewords.{HasCodewords, codewords_of}
use Rattle.jxl_lossless.specs.Inner.Codewords.{AreBeyond, AreWithin, CodewordsSay, SectionHas, SumSays}
use Rattle.jxl_lossless.specs.Inner.Depths.{UsesGlobal}
use Rattle.jxl_lossless.specs.declared.still.error.FrameError.{FrameError}
use Rattle.jxl_lossless.proofs.Depths.{no_head, one_head}

-- one number more
pub sum_push : (ns : List ℕ) (n : ℕ) → sum (ns ++ n ∷ []) ≡ sum ns + n
sum_push ns n = sum_by_push (λ m. m) ns n

pub sum_first : (n : ℕ) (ns : List ℕ) → sum (n ∷ ns) ≡ n + sum ns
sum_first n ns = sum_by-cons (λ m. m) n ns

module _ (list : SectionPart → ChannelList) where
  -- what a section with a header of its own has
  pub section_has : (s : Section) (tree : Option (Config Entropy)) (n : ℕ) → s.nested ≡ true → OwnTreeIs (entropy decoder_at) None (list s.part) (bytes_of s.bits) (position_of s.bits) tree → n ≡ codewords_of tree → SectionHas list s n
  section_has s tree n nested is same = by s.nested nested where
    by : (b : Bool) → b ≡ true → MatchBool b (HasCodewords (list s.part) (bytes_of s.bits) (position_of s.bits) n) (n ≡ 0)
    by true e = (tree, is, same)
    by false e = never (sym e)

  -- and one without
  pub section_without : (s : Section) (n : ℕ) → n ≡ 0 → s.nested ≡ false → SectionHas list s n
  section_without s n none other = by s.nested other where
    by : (b : Bool) → b ≡ false → MatchBool b (HasCodewords (list s.part) (bytes_of s.bits) (position_of s.bits) n) (n ≡ 0)
    by true e = never e
    by false e = none

  one_global : (s : Section) (n : ℕ) → n ≡ 0 → UsesGlobal s → SectionHas list s n
  one_global s n none uses = by s.nested refl where
    by : (b : Bool) → s.nested ≡ b → MatchBool b (HasCodewords (list s.part) (bytes_of s.bits) (position_of s.bits) n) (n ≡ 0)
    by true e = (None, inl (uses e), none)
    by false e = none

  -- sections that use the global tree have no codewords of their own
  pub none_own : (ss : List Section) → All UsesGlobal ss → (ns : List ℕ) × AllZip (SectionHas list) ss ns × (sum ns ≡ 0)
  none_own [] uses = ([], tt, refl)
  none_own (s ∷ ss) uses =
      let (ns, has, none) = none_own ss (All-tail UsesGlobal s ss uses) in
      let sum_is = sum_first 0 ns in
      (0 ∷ ns, (one_global s 0 refl (All-head UsesGlobal s ss uses), has), omega (arith, sum_is, none))

  -- the first of sections of which the first has none
  pub others_have : (first : Section) (more : List Section) → ((n : ℕ) → SectionHas list first n → n ≡ 0) → (k : ℕ) (ns : List ℕ) → AllZip (SectionHas list) (take k (first ∷ more)) ns →
      (j : ℕ) × (ms : List ℕ) × AllZip (SectionHas list) (take j more) ms × (sum ms ≡ sum ns)
  others_have first more none zero [] has = (0, [], tt, refl)
  others_have first more none zero (n ∷ ns) has = absurd has
  others_have first more none (suc k) [] has = absurd has
  others_have first more none (suc k) (n ∷ ns) has =
      let first_is = none n has.0 in
      let sum_is = sum_first n ns in
      (k, ns, has.1, omega (arith, first_is, sum_is))

module _ (has_global : Bool) (given : ChannelList) (group_dim : ℕ) (bytes : List ℕ) (p : ℕ) (passes : List Pass) (most : ℕ) (ss : List Section) where
  -- the same by the coded channels of the image's header
  pub coded_have : {E : Type 0} (own : ℕ) (coded : CodedChannels) (result : Result Bool E) → OpensCoded has_global given group_dim passes bytes p (Some coded) → HasCodewords given bytes p own →
      IfOk result (SumSays (list_of_part coded.group_dim coded.passes.items (list_of coded.channels)) most own ss) → IfOk result (CodewordsSay has_global given group_dim bytes p passes most ss)
  coded_have own coded (Err e) opens has says = tt
  coded_have own coded (Ok b) opens has says = λ head q e.
      let (seen, at, reads, list, dim, by) = opens in
      let same : seen ≡ head = one_head ((opening has_global given).read bytes p) seen head at q reads e in
      let here : SumSays (list_of_part group_dim passes head.coded.list) most own ss b =
      subst (λ (h : Opening). SumSays (list_of_part group_dim passes h.coded.list) most own ss b) same
      (subst (λ (l : ChannelList). SumSays (list_of_part group_dim passes l) most own ss b) list
      (subst (λ (ps : List Pass). SumSays (list_of_part group_dim ps (list_of coded.channels)) most own ss b) by
      (subst (λ n. SumSays (list_of_part n coded.passes.items (list_of coded.channels)) most own ss b) dim says))) in
      (own, has, here)

  -- where the image's header has an error nothing is compared
  pub none_has : (b : Bool) → OpensCoded has_global given group_dim passes bytes p None → CodewordsSay has_global given group_dim bytes p passes most ss b
  none_has b (error, is) = λ head q e. absurd (no_head ((opening has_global given).read bytes p) error (record { value = head; position = q }) is e)

-- what comparing says of equal channels, sides and sections
module _ {D : Type 0} (d : Meaning D) (global : Option (Config D)) (l m : ChannelList) (dim side : ℕ) (bytes : List ℕ) (p : ℕ) (passes : List Pass) (limits : TreeLimits) (ss ts : List Section)
    (lists : l ≡ m) (dims : dim ≡ side) (sections : ss ≡ ts) where
  pub same_within : AreWithin d global l dim bytes p passes limits ss → AreWithin d global m side bytes p passes limits ts
  same_within h =
      subst (λ (xs : List Section). AreWithin d global m side bytes p passes limits xs) sections
      (subst (λ n. AreWithin d global m n bytes p passes limits ss) dims
      (subst (λ (x : ChannelList). AreWithin d global x dim bytes p passes limits ss) lists h))

  pub same_beyond : (e : FrameError) → AreBeyond d global l dim bytes p passes limits ss e → AreBeyond d global m side bytes p passes limits ts e
  same_beyond e h =
      subst (λ (xs : List Section). AreBeyond d global m side bytes p passes limits xs e) sections
      (subst (λ n. AreBeyond d global m n bytes p passes limits ss e) dims
      (subst (λ (x : ChannelList). AreBeyond d global x dim bytes p passes limits ss e) lists h))
