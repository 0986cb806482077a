use Rattle.std.proofs.Common.{◌≡◌, ℕ, ◌+◌, ◌<◌, ◌≤◌, List, [], ◌∷◌, ◌++◌, take, get_or, length, ap, ◌∙◌, sym, subst, arith}
use Rattle.std.specs.Prelude.{sum}
use Rattle.std.specs.List.{AllZip}
use Rattle.std.proofs.lemmas.List.{take_all, take_more}
use Rattle.std.proofs.lemmas.Slice.Zip.{all_zipped_more}
use Rattle.jxlm_transform.specs.Lists.{list_of}
use Rattle.jxlm_tree_depth.specs.Openings.{list_of_part}
use Rattle.jxl_modular.specs.declared.sections.Section.{Section}
use Rattle.jxl_lossless.specs.Inner.Codewords.{SectionHas}
use Rattle.jxl_lossless.proofs.Codewords.{sum_push}
use Rattle.jxl_lossless.proofs.still.codewords.sections_exceed.Goals as goal

-- one section more
zip_more : (R : Section → ℕ → Type 0) (ss : List Section) (ns : List ℕ) (i : ℕ) (s : Section) (n : ℕ) → i < length ss → s ≡ get_or ss i s → AllZip R (take i ss) ns → R s n → AllZip R (take (i + 1) ss) (ns ++ n ∷ [])
zip_more R ss ns i s n lt is zip has =
    subst (λ (ts : List Section). AllZip R ts (ns ++ n ∷ [])) (sym (take_more ss i s lt ∙ ap (λ (t : Section). take i ss ++ t ∷ []) (sym is)))
    (all_zipped_more R (take i ss) ns s n zip has)

pub loop-section-init : goal.loop-section-init
loop-section-init c = ([], tt, omega arith)

pub loop-section-preserved : goal.loop-section-preserved
loop-section-preserved c =
    let coded = c.args.coded.now in
    let R = SectionHas (list_of_part coded.group_dim coded.passes.items (list_of coded.channels)) in
    let ns = c.loop-section.invariant.0 in
    let n = c.in_ok-codewords.codewords in
    let more = sum_push ns n in
    let before = c.loop-section.invariant.2 in (
      ns ++ n ∷ [],
      zip_more R c.args.sections.now ns c.loop-section.section-index c.section-item.result n c.loop-section-test.true c.section-item.is c.loop-section.invariant.1 c.in_ok-codewords.ensures,
      omega (arith, more, before),
    )

pub returns-then-codewords-left : goal.returns-then-codewords-left
returns-then-codewords-left c =
    let coded = c.args.coded.now in
    let R = SectionHas (list_of_part coded.group_dim coded.passes.items (list_of coded.channels)) in
    let ns = c.loop-section.invariant.0 in
    let n = c.in_ok-codewords.codewords in
    let more = sum_push ns n in
    let before = c.loop-section.invariant.2 in (
      c.loop-section.section-index + 1,
      ns ++ n ∷ [],
      zip_more R c.args.sections.now ns c.loop-section.section-index c.section-item.result n c.loop-section-test.true c.section-item.is c.loop-section.invariant.1 c.in_ok-codewords.ensures,
      omega (arith, more, before),
    )

pub returns : goal.returns
returns c =
    let coded = c.args.coded.now in
    let R = SectionHas (list_of_part coded.group_dim coded.passes.items (list_of coded.channels)) in
    let ns = c.loop-section.invariant.0 in
    let before = c.loop-section.invariant.2 in (
      ns,
      subst (λ (ss : List Section). AllZip R ss ns) (take_all c.loop-section.section-index c.args.sections.now c.loop-section-test.false) c.loop-section.invariant.1,
      omega (arith, before),
    )
