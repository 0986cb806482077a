use Rattle.jxlm_encode_transform.specs.Inner.Coded.{CodedUntil}
use Rattle.jxlm_encode_transform.proofs.colour.code_regions.Given as goal

abbrev pub invariant-loop-y : goal.invariant-loop-y
invariant-loop-y g l = CodedUntil l.regions.first l.regions.second l.regions.third g.S.Sealed.to_int g.S.Sealed.width l.kind l.y l.fn.store l.store
