use Rattle.std.proofs.Common.{◌≡◌, true, sym, subst}
use Rattle.std.specs.List.{All}
use Rattle.std.specs.Option.{option_copied}
use Rattle.std.proofs.lemmas.List.{take_all}
use Rattle.std.proofs.lemmas.List.Elements.{All-more}
use Rattle.jxlm_transform.specs.Lists.{list_of}
use Rattle.jxlm_tree_depth.specs.Openings.{list_of_part}
use Rattle.jxl_modular.specs.declared.sections.Section.{Section}
use Rattle.jxl_lossless.specs.Inner.Depths.{IsShallow, SectionSays}
use Rattle.jxl_lossless.proofs.still.depths.some_section_deep.Goals as goal

pub loop-section-preserved : goal.loop-section-preserved
loop-section-preserved g c =
    let coded = c.args.coded.now in
    let list = list_of_part coded.group_dim coded.passes.items (list_of coded.channels) in
    let says = λ (s : Section). s.nested ≡ true → IsShallow g.D.Decoder.meaning (option_copied c.args.global) list c.args.deepest s in
    let s = c.section-item.result in
    let here : says s = subst (λ b. SectionSays g.D.Decoder.meaning (option_copied c.args.global) list c.args.deepest s b) c.if-branch.false c.in_ok-is_deep.ensures in
    All-more says c.args.sections.now c.loop-section.section-index s c.loop-section-test.true c.loop-section.invariant (subst says c.section-item.is here)

pub returns-then-branch : goal.returns-then-branch
returns-then-branch g c =
    let coded = c.args.coded.now in
    let list = list_of_part coded.group_dim coded.passes.items (list_of coded.channels) in (
      c.loop-section.section-index,
      c.section-item.result,
      c.loop-section-test.true,
      sym c.section-item.is,
      subst (λ b. SectionSays g.D.Decoder.meaning (option_copied c.args.global) list c.args.deepest c.section-item.result b) c.if-branch.true c.in_ok-is_deep.ensures,
    )

pub returns : goal.returns
returns g c =
    let coded = c.args.coded.now in
    let list = list_of_part coded.group_dim coded.passes.items (list_of coded.channels) in
    let says = λ (s : Section). s.nested ≡ true → IsShallow g.D.Decoder.meaning (option_copied c.args.global) list c.args.deepest s in
    subst (λ ss. All says ss) (take_all c.loop-section.section-index c.args.sections.now c.loop-section-test.false) c.loop-section.invariant
