use Rattle.jxlm_encode_transform.specs.Inner.Squeezed.{SqueezedRows}
use Rattle.jxlm_encode_transform.proofs.squeeze.squeeze_rows.Given as goal

abbrev pub invariant-loop-y : goal.invariant-loop-y
invariant-loop-y g l = SqueezedRows g.S.Sealed.to_int g.S.Sealed.width l.region l.y l.fn.store l.store
