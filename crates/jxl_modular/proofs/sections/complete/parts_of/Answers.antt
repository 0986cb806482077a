use Rattle.jxl_modular.proofs.SectionParts.{holds_any, holds_last, holds_more}
use Rattle.jxl_modular.proofs.sections.complete.parts_of.Goals as goal

pub loop-section-preserved : goal.loop-section-preserved
loop-section-preserved c =
    holds_more _ _ c.args.sections.now c.loop-section.section-index c.section-item.result c.loop-section-test.true c.section-item.is c.loop-section.invariant c.in_ok-insert.ensures.updates

pub returns-clause-ok : goal.returns-clause-ok
returns-clause-ok c = holds_any _ _ (holds_last _ _ _ c.loop-section-test.false c.loop-section.invariant)
