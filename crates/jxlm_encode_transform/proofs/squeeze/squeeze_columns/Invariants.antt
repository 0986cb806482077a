use Rattle.std.proofs.Common.{◌≤◌, ◌-◌}
use Rattle.jxlm_encode_transform.specs.Inner.Squeezed.{SqueezedColumns}
use Rattle.jxlm_encode_transform.proofs.squeeze.squeeze_columns.Given as goal

abbrev pub invariant-loop-x : goal.invariant-loop-x
invariant-loop-x g l = record {
  within : l.x ≤ l.region.width;
  squeezed : SqueezedColumns g.S.Sealed.to_int g.S.Sealed.width l.region l.x l.fn.store l.store;
}

abbrev pub decreases-loop-x : goal.decreases-loop-x
decreases-loop-x g l = l.region.width - l.x
