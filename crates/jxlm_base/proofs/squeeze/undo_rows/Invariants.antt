use Rattle.std.proofs.Common.{◌≡◌, ℕ, ◌-◌, ◌<◌, ◌≤◌, length}
use Rattle.jxlm_lanes.specs.Squeeze.{AreSamples}
use Rattle.jxlm_base.specs.Subgrid.{whole, IsSamePlace, IsSameOutside}
use Rattle.jxlm_lanes.specs.Pairs.{IsUnsqueezed}
use Rattle.jxlm_base.specs.Inner.Unsqueeze.{row_in}
use Rattle.jxlm_base.proofs.squeeze.undo_rows.Given as goal

abbrev pub invariant-loop-y : goal.invariant-loop-y
invariant-loop-y g l = record {
  within : l.y ≤ l.fn.subgrid.height;
  len : length l.scratch ≡ length l.fn.scratch;
  place : IsSamePlace l.fn.subgrid l.subgrid;
  cells : IsSameOutside l.fn.subgrid.x l.fn.subgrid.y l.fn.subgrid.width l.y (whole l.fn.subgrid) (whole l.subgrid);
  undone : (y : ℕ) → y < l.y → IsUnsqueezed g.S.Pairs.width l.fn.subgrid.width (row_in g.S.Pairs.to_int l.fn.subgrid (whole l.fn.subgrid) y) (row_in g.S.Pairs.to_int l.fn.subgrid (whole l.subgrid) y);
  samples : (y : ℕ) → y < l.y → AreSamples g.S.Pairs.width l.fn.subgrid.width (row_in g.S.Pairs.to_int l.fn.subgrid (whole l.fn.subgrid) y);
}

abbrev pub decreases-loop-y : goal.decreases-loop-y
decreases-loop-y g l = l.fn.subgrid.height - l.y
