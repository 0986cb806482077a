use Rattle.std.proofs.Common.{◌≡◌, ℕ, ◌+◌, ◌*◌, ◌<◌}
use Rattle.std.specs.Prelude.{slice_get}
use Rattle.jxlm_base.specs.Grid.{cell}
use Rattle.jxlm_base.specs.Subgrid.{whole, IsSamePlace, IsSameOutside}
use Rattle.jxlm_base.proofs.squeeze.write_strip.Given as goal

abbrev pub invariant-loop-i : goal.invariant-loop-i
invariant-loop-i g l = record {
  until : l.i-end ≡ l.fn.subgrid.height;
  place : IsSamePlace l.fn.subgrid l.subgrid;
  cells : IsSameOutside (l.fn.subgrid.x + l.x) l.fn.subgrid.y l.columns l.i (whole l.fn.subgrid) (whole l.subgrid);
  written : (i j : ℕ) → i < l.i → j < l.columns → cell (whole l.subgrid) (l.fn.subgrid.x + l.x + j) (l.fn.subgrid.y + i) ≡ slice_get l.strip (i * l.columns + l.columns + j);
}
