use Rattle.std.proofs.Common.{◌∙◌, ◌+◌, refl, sym, subst}
use Rattle.std.specs.Global.{Vec}
use Rattle.jxlm_groups.specs.declared.part.Kind.TheVariants as kinds
use Rattle.jxlm_groups.specs.declared.part.SectionPart.{SectionPart}
use Rattle.jxlm_groups.specs.declared.part.SectionPart.TheVariants as parts
use Rattle.jxl_codestream.specs.LayoutParts.{parts_of}
use Rattle.jxl_encode_sections.specs.Inner.Groups.{AreMoreGroups}
use Rattle.jxl_encode_sections.proofs.GroupLists.{one_more_has, one_more_not}
use Rattle.jxl_encode_sections.proofs.list.push_high.Goals as goal
use Rattle.jxl_encode_sections.proofs.list.push_high.Goals.{then-has+in_ok-push, else-has}

pub loop-k-preserved : goal.loop-k-preserved
loop-k-preserved c =
    elim c.if-has.branch [
      | then-has+in_ok-push w ↦
          subst (λ (v : Vec SectionPart). AreMoreGroups (parts_of c.args.layout.now) (kinds.Pass 0) (c.loop-k.k + 1) c.args.groups.now.items v.items) (sym w.groups-is)
          (one_more_has (parts_of c.args.layout.now) c.requires.many (kinds.Pass 0) c.loop-k.k c.args.groups.now.items c.loop-k.groups.items w.push.new.self.items (parts.Pass 0 c.loop-k.k) refl (λ e. cc) (sym c.has.ensures ∙ w.if-has.true)
          w.in_ok-push.ensures.items c.loop-k.invariant)
      | else-has w ↦
          subst (λ (v : Vec SectionPart). AreMoreGroups (parts_of c.args.layout.now) (kinds.Pass 0) (c.loop-k.k + 1) c.args.groups.now.items v.items) (sym w.groups-is)
          (one_more_not (parts_of c.args.layout.now) c.requires.many (kinds.Pass 0) c.loop-k.k c.args.groups.now.items c.loop-k.groups.items (sym c.has.ensures ∙ w.if-has.false) c.loop-k.invariant)
    ]
