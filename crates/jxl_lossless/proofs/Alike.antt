-- What is true of the samples of a frame by the sections of its parts is true by any other sections that are the same.
use Rattle.std.proofs.Common.{◌≡◌, ℕ, ℤ, List, [], ◌∷◌, get_or, Option, sym, ◌∙◌}
use Rattle.std.specs.Int.{Width}
use Rattle.std.specs.List.{AllZip}
use Rattle.jxlm_bits.specs.Decoding.{Meaning}
use Rattle.jxlm_bits.specs.ErrorKind.{kind_of}
use Rattle.jxlm_base.specs.Grid.{Grid}
use Rattle.jxlm_ma_tree.proofs.Memory.{unless_so}
use Rattle.jxlm_tree.specs.Tree.{Config}
use Rattle.jxlm_transform.specs.Channels.{ChannelList}
use Rattle.jxlm_groups.specs.declared.part.SectionPart.{SectionPart}
use Rattle.jxlm_groups.specs.declared.pass.Pass.{Pass}
use Rattle.jxl_picture.specs.declared.limits.TreeLimits.{TreeLimits}
use Rattle.jxl_lossless.specs.Stills.{AreShallow, CanDecode, GroupHas, HasSections, HaveCodewords, HaveFewCodewords, HeaderStands, IsStill, StillFails}
use Rattle.jxl_lossless.specs.declared.still.error.FrameError.{FrameError}
use Rattle.jxl_lossless.specs.declared.still.error.FrameError.TheVariants as errors

module _ {D : Type 0} (d : Meaning D) (w : Width) (global : Option (Config D)) (given : ChannelList) (group_dim bit_depth : ℕ) (bytes : List ℕ) (p : ℕ)
    (passes : List Pass) (trees : TreeLimits) (one other : SectionPart → Option (List ℕ × ℕ)) (alike : (part : SectionPart) → one part ≡ other part) where
  abbrev Stands : (SectionPart → Option (List ℕ × ℕ)) → Type 0
  Stands f = HeaderStands d w global given group_dim bit_depth bytes p passes f

  abbrev Has : (SectionPart → Option (List ℕ × ℕ)) → Type 0
  Has f = HasSections d w global given group_dim bit_depth bytes p passes f

  abbrev Can : (SectionPart → Option (List ℕ × ℕ)) → Type 0
  Can f = CanDecode d w global given group_dim bit_depth bytes p passes f

  abbrev Fails : (SectionPart → Option (List ℕ × ℕ)) → FrameError → Type 0
  Fails f = StillFails d w global given group_dim bit_depth bytes p passes f trees

  abbrev stands_too : Stands one → Stands other
  stands_too s = record { plain = s.plain; start = s.start }

  abbrev has_too : Has one → Has other
  has_too s = record {
    stands = stands_too s.stands;
    cut = s.cut;
    groups = s.groups;
    are = λ k x lt. let (there, begins, nested) = s.are k x lt in (sym (alike (get_or s.groups k x).part) ∙ there, begins, nested);
    each = s.each;
    in_order = s.in_order;
  }

  abbrev can_too : Can one → Can other
  can_too s = record { has = has_too s.has; plain = s.plain; first = s.first; bytes_are = s.bytes_are; goes_on = s.goes_on; is = s.is }

  -- groups have the same codewords
  groups_too : (s : Stands one) (groups : List SectionPart) (ns : List ℕ) → AllZip (GroupHas d w global given group_dim bit_depth bytes p passes one s) groups ns →
      AllZip (GroupHas d w global given group_dim bit_depth bytes p passes other (stands_too s)) groups ns
  groups_too s [] [] has = tt
  groups_too s [] (n ∷ ns) has = absurd has
  groups_too s (q ∷ qs) [] has = absurd has
  groups_too s (q ∷ qs) (n ∷ ns) has =
      let (section, stream, there, own) = has.0 in
      ((section, stream, sym (alike q) ∙ there, own), groups_too s qs ns has.1)

  have_too : (s : Stands one) (groups : List SectionPart) (n : ℕ) → HaveCodewords d w global given group_dim bit_depth bytes p passes one s groups n →
      HaveCodewords d w global given group_dim bit_depth bytes p passes other (stands_too s) groups n
  have_too s groups n h = let (own, header, ns, has, is) = h in (own, header, ns, groups_too s groups ns has, is)

  few_too : (s : Can one) → HaveFewCodewords d w global given group_dim bit_depth bytes p passes one trees.codewords s →
      HaveFewCodewords d w global given group_dim bit_depth bytes p passes other trees.codewords (can_too s)
  few_too s h = let (n, have, low) = h in (n, have_too s.has.stands _ n have, low)

  shallow_too : (s : Can one) → AreShallow d w global given group_dim bit_depth bytes p passes one trees.depth s →
      AreShallow d w global given group_dim bit_depth bytes p passes other trees.depth (can_too s)
  shallow_too s h = record { image = h.image; groups = h.groups }

  -- the channels of a frame
  pub still_too : (grids : List (Grid ℤ)) (before after : ℕ) → IsStill d w global given group_dim bit_depth bytes p passes one trees grids before after →
      IsStill d w global given group_dim bit_depth bytes p passes other trees grids before after
  still_too grids before after s = record { can = can_too s.can; few = few_too s.can s.few; shallow = shallow_too s.can s.shallow; decoded = s.decoded }

  -- why it has none
  pub fails_too : (e : FrameError) → Fails one e → Fails other e
  fails_too (errors.Header e) h = h
  fails_too errors.WeightedPalette h = h
  fails_too errors.NoGroups h = (stands_too h.0, h.1)
  fails_too errors.NoSection h = let (s, cut, part, is, none) = h in (stands_too s, cut, part, is, sym (alike part) ∙ none)
  fails_too errors.GroupWeightedPalette h = (has_too h.0, h.1)
  fails_too errors.TooManyCodewords h = let (s, many) = h in let (k, n, have, much) = many in (can_too s, (k, n, have_too s.has.stands _ n have, much))
  fails_too errors.TooManyDecisions h = (can_too h.0, few_too h.0 h.1, h.2)
  fails_too (errors.Samples e) h = unless_so (kind_of e) (λ f. let (s, few, shallow, coded, failing, others, is, all, fails) = f in (can_too s, few_too s few, shallow_too s shallow, coded, failing, others, is, all, fails)) h
  fails_too errors.OutOfMemory h = tt
