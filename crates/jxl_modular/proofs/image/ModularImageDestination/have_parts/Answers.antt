use Rattle.std.proofs.Common.{◌≡◌, Bool, true, false}
use Rattle.jxlm_groups.specs.Counts.{exists}
use Rattle.jxl_modular.specs.Image.{coded_list}
use Rattle.jxl_modular.proofs.SectionParts.{each_more, holds_more, not_unlike, of_each, unlike_more}
use Rattle.jxl_modular.proofs.image.ModularImageDestination.have_parts.Goals as goal
use Rattle.jxl_modular.proofs.image.ModularImageDestination.have_parts.Goals.{then-not-has_part-via-then-not-has_part, then-not-has_part-via-else-not-has_part+in_ok-insert+then-not-branch}

pub returns-then-not-has_part-clause-ok : goal.returns-then-not-has_part-clause-ok
returns-then-not-has_part-clause-ok g c =
    let ss = c.args.sections.now in
    let i = c.loop-section.section-index in
    let s = c.section-item.result in
    let lt = c.loop-section-test.true in
    let here = c.section-item.is in (
      λ e. absurd (never e),
      λ h. elim c.then-not-has_part.branch [
        | then-not-has_part-via-then-not-has_part w ↦ of_each (exists c.args.self.now.group_dim c.args.passes.now (coded_list c.args.self.now)) ss i s _ lt here w.if-not-has_part.ensures h.0
        | then-not-has_part-via-else-not-has_part+in_ok-insert+then-not-branch w ↦
            absurd (not_unlike _ ss i s _ lt here c.loop-section.invariant.seen w.in_ok-insert.ensures.added w.if-not-branch.true h.1)
      ],
    ) where
      never : ◌≡◌ {A = Bool} false true → ⊥
      never e = cc

pub loop-section-preserved : goal.loop-section-preserved
loop-section-preserved g c =
    let i = c.loop-section.section-index in
    let ss = c.args.sections.now in
    let s = c.section-item.result in
    let lt = c.loop-section-test.true in
    let here = c.section-item.is in
    let inv = c.loop-section.invariant in
    let e = c.in_ok-insert.ensures in
    record {
      seen = holds_more _ _ ss i s lt here inv.seen e.updates;
      exist = each_more (exists c.args.self.now.group_dim c.args.passes.now (coded_list c.args.self.now)) ss i s lt here c.if-not-has_part.ensures inv.exist;
      unlike = unlike_more _ ss i s _ lt here inv.seen e.added c.if-not-branch.false inv.unlike;
    }
