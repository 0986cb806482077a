use Rattle.std.proofs.Common.{◌≡◌, ℕ, ◌-◌, ◌<◌, ◌≤◌, length}
use Rattle.jxlm_lanes.specs.Squeeze.{AreSamples}
use Rattle.jxlm_base.specs.Subgrid.{whole, IsSamePlace, IsSameOutside}
use Rattle.jxlm_lanes.specs.Pairs.{IsUnsqueezed}
use Rattle.jxlm_base.specs.Inner.Unsqueeze.{column_in}
use Rattle.jxlm_base.proofs.squeeze.undo_columns.Given as goal

abbrev pub invariant-loop-x : goal.invariant-loop-x
invariant-loop-x g l = record {
  within : l.x ≤ l.fn.subgrid.width;
  len : length l.scratch ≡ length l.fn.scratch;
  place : IsSamePlace l.fn.subgrid l.subgrid;
  cells : IsSameOutside l.fn.subgrid.x l.fn.subgrid.y l.x l.fn.subgrid.height (whole l.fn.subgrid) (whole l.subgrid);
  undone : (x : ℕ) → x < l.x → IsUnsqueezed g.S.Pairs.width l.fn.subgrid.height (column_in g.S.Pairs.to_int l.fn.subgrid (whole l.fn.subgrid) x) (column_in g.S.Pairs.to_int l.fn.subgrid (whole l.subgrid) x);
  samples : (x : ℕ) → x < l.x → AreSamples g.S.Pairs.width l.fn.subgrid.height (column_in g.S.Pairs.to_int l.fn.subgrid (whole l.fn.subgrid) x);
}

abbrev pub decreases-loop-x : goal.decreases-loop-x
decreases-loop-x g l = l.fn.subgrid.width - l.x
