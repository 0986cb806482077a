use Rattle.std.proofs.Common.{◌∙◌, ◌<◌, All, length, sym, ap, subst, arith, take_all}
use Rattle.jxlm_groups.specs.declared.part.SectionPart.TheVariants as parts
use Rattle.jxl_codestream.specs.LayoutParts.{parts_of}
use Rattle.jxl_coding_build.specs.AnyWriters.{codes_in}
use Rattle.jxl_encode_sections.specs.Inner.Groups.{HasSection}
use Rattle.jxl_encode_sections.specs.declared.parts.PartTokens.{PartTokens}
use Rattle.jxl_encode_sections.proofs.PutGroups.{all_put}
use Rattle.jxl_encode_sections.proofs.groups.put_groups.Goals as goal

pub loop-group-preserved : goal.loop-group-preserved
loop-group-preserved c =
    let put = c.in_ok-put_group.ensures in
    let before = c.loop-group.invariant in
    let lt : c.loop-group.group-index < length c.args.groups.now = omega (arith, c.loop-group-test.true) in (
      put.count ∙ before.0,
      all_put (codes_in c.args.codes.now) (parts_of c.args.layout.now) c.args.groups.now c.loop-group.group-index c.group-item.result c.loop-group.sections.items c.put_group.new.sections.items lt c.group-item.is put before.1,
      λ all. put.others parts.Global (λ e. all c.loop-group.group-index c.group-item.result lt (ap (λ (p : PartTokens). p.part) (sym c.group-item.is) ∙ sym e)) ∙ before.2 all,
    )

pub returns-clause-found : goal.returns-clause-found
returns-clause-found c =
    subst (λ gs. All (λ (p : PartTokens). HasSection (codes_in c.args.codes.now) (parts_of c.args.layout.now) c.args.groups.now c.loop-group.sections.items p.part) gs)
    (take_all c.loop-group.group-index c.args.groups.now (omega (arith, c.loop-group-test.false))) c.loop-group.invariant.1
