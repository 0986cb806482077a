use Rattle.jxlm_encode_transform.specs.Inner.Squeezed.{AreLines, residual_of}
use Rattle.jxlm_encode_transform.proofs.squeeze.put_residuals.Given as goal

abbrev pub invariant-loop-k : goal.invariant-loop-k
invariant-loop-k g l = AreLines g.S.Sealed.to_int l.strip.width l.residuals (residual_of g.S.Sealed.to_int g.S.Sealed.width l.strip l.store) l.k
