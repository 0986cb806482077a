use Rattle.std.proofs.Common.{List, subst}
use Rattle.std.specs.List.{All}
use Rattle.std.proofs.lemmas.List.{take_all}
use Rattle.std.proofs.lemmas.List.Elements.{All-more}
use Rattle.jxl_modular.specs.declared.sections.Section.{Section}
use Rattle.jxl_lossless.specs.Inner.Depths.{UsesGlobal}
use Rattle.jxl_lossless.proofs.still.depths.all_use_global.Goals as goal

pub loop-section-preserved : goal.loop-section-preserved
loop-section-preserved c =
    let s = c.section-item.result in
    let here : UsesGlobal s = c.has_own_tree.ensures c.if-has_own_tree.false in
    All-more UsesGlobal c.args.sections.now c.loop-section.section-index s c.loop-section-test.true c.loop-section.invariant (subst UsesGlobal c.section-item.is here)

pub returns : goal.returns
returns c = λ all. subst (λ (ss : List Section). All UsesGlobal ss) (take_all c.loop-section.section-index c.args.sections.now c.loop-section-test.false) c.loop-section.invariant
