use Rattle.jxlm_encode_transform.specs.Inner.Lines.{AreResiduals}
use Rattle.jxlm_encode_transform.proofs.lines.put_residuals.Given as goal

abbrev pub invariant-loop-k : goal.invariant-loop-k
invariant-loop-k g l = AreResiduals g.S.Sealed.to_int g.S.Sealed.width l.line l.residuals l.k
