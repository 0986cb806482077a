use Rattle.std.proofs.Common.{◌∙◌, List, [], sym, ap, subst}
use Rattle.jxlm_groups.specs.Counts.{group_count}
use Rattle.jxlm_groups.specs.declared.part.Kind.TheVariants as kinds
use Rattle.jxlm_groups.specs.declared.part.SectionPart.{SectionPart}
use Rattle.jxlm_groups.specs.declared.pass.Pass.{Pass}
use Rattle.jxlm_section_split.specs.CutPicture.{one_pass}
use Rattle.jxlm_transform.specs.Lists.{list_of}
use Rattle.jxl_codestream.specs.LayoutParts.{parts_of}
use Rattle.jxl_encode_sections.specs.Inner.Groups.{AreGroupsOf, AreMoreGroups}
use Rattle.jxl_encode_sections.proofs.GroupLists.{all_listed, none_listed}
use Rattle.jxl_encode_sections.proofs.list.groups_of.Goals as goal

pub returns-then-section_count-eq1 : goal.returns-then-section_count-eq1
returns-then-section_count-eq1 c =
    subst (λ (gs : List SectionPart). AreGroupsOf c.args.group_dim one_pass (list_of c.args.channels.now) (parts_of c.args.layout.now) gs) (sym c.new-groups.ensures.items)
    (none_listed (parts_of c.args.layout.now) c.args.group_dim (list_of c.args.channels.now) c.requires.there (sym c.section_count.ensures.count ∙ c.if-section_count-eq1.true))

pub returns : goal.returns
returns c =
    let low : AreMoreGroups (parts_of c.args.layout.now) kinds.Lf (group_count c.args.group_dim one_pass (list_of c.args.channels.now) kinds.Lf) [] c.push_low.new.groups.items =
    subst (λ n. AreMoreGroups (parts_of c.args.layout.now) kinds.Lf n [] c.push_low.new.groups.items)
    (c.group_count-low.ensures ∙ ap (λ (ps : List Pass). group_count c.args.group_dim ps (list_of c.args.channels.now) kinds.Lf) c.one_pass-passes.ensures)
    (subst (λ (old : List SectionPart). AreMoreGroups (parts_of c.args.layout.now) kinds.Lf c.group_count-low.result old c.push_low.new.groups.items) c.new-groups.ensures.items c.in_ok-push_low.ensures) in
    let high : AreMoreGroups (parts_of c.args.layout.now) (kinds.Pass 0) (group_count c.args.group_dim one_pass (list_of c.args.channels.now) (kinds.Pass 0)) c.push_low.new.groups.items c.push_high.new.groups.items =
    subst (λ n. AreMoreGroups (parts_of c.args.layout.now) (kinds.Pass 0) n c.push_low.new.groups.items c.push_high.new.groups.items)
    (c.group_count-high.ensures ∙ ap (λ (ps : List Pass). group_count c.args.group_dim ps (list_of c.args.channels.now) (kinds.Pass 0)) c.one_pass-passes.ensures) c.in_ok-push_high.ensures in
    all_listed (parts_of c.args.layout.now) c.args.group_dim (list_of c.args.channels.now) c.requires.there c.requires.single c.push_low.new.groups.items c.push_high.new.groups.items low high
