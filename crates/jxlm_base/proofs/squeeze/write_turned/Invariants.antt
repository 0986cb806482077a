use Rattle.std.proofs.Common.{◌≡◌, ℕ, ◌+◌, ◌*◌, ◌<◌, length}
use Rattle.std.specs.Prelude.{slice_get}
use Rattle.jxlm_base.specs.Grid.{cell}
use Rattle.jxlm_base.specs.Subgrid.{whole, IsSamePlace, IsSameOutside}
use Rattle.jxlm_base.proofs.squeeze.write_turned.Given as goal

abbrev pub invariant-loop-j : goal.invariant-loop-j
invariant-loop-j g l = record {
  len : length l.row ≡ length l.fn.row;
  place : IsSamePlace l.fn.subgrid l.subgrid;
  cells : IsSameOutside l.fn.subgrid.x (l.fn.subgrid.y + l.y) l.fn.subgrid.width l.j (whole l.fn.subgrid) (whole l.subgrid);
  written : (j i : ℕ) → j < l.j → i < l.fn.subgrid.width → cell (whole l.subgrid) (l.fn.subgrid.x + i) (l.fn.subgrid.y + l.y + j) ≡ slice_get l.strip (i * l.rows + l.rows + j);
}
