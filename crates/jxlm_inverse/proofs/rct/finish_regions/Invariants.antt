use Rattle.jxlm_inverse.specs.Inner.ColourRows.{AreThree, FinishedUntil}
use Rattle.jxlm_inverse.proofs.rct.finish_regions.Given as goal

abbrev pub invariant-loop-y : goal.invariant-loop-y
invariant-loop-y g l = record {
  three : AreThree l.regions.first l.regions.second l.regions.third l.store;
  until : FinishedUntil l.regions.first l.regions.second l.regions.third g.S.Sealed.to_int g.S.Sealed.width l.kind.ty l.kind.permutation l.y l.fn.store l.store;
}
