use Rattle.std.proofs.Common.{◌≡◌, ℕ, ◌+◌, ◌*◌, ◌<◌, length}
use Rattle.std.specs.Prelude.{slice_get}
use Rattle.jxlm_base.specs.Grid.{cell}
use Rattle.jxlm_base.specs.Subgrid.{whole}
use Rattle.jxlm_base.proofs.squeeze.turn_rows.Given as goal

abbrev pub invariant-loop-j : goal.invariant-loop-j
invariant-loop-j g l = record {
  len : length l.turned ≡ length l.fn.turned;
  turned : (i j : ℕ) → i < l.subgrid.width → j < l.j → slice_get l.turned (i * l.rows + j) ≡ cell (whole l.subgrid) (l.subgrid.x + i) (l.subgrid.y + (l.y + j));
}
