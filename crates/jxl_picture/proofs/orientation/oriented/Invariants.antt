use Rattle.std.proofs.Common.{◌≡◌, ℕ, ◌<◌}
use Rattle.jxlm_base.specs.Grid.{IsFull, cell}
use Rattle.jxl_picture.specs.Inner.Cells.{column_of, row_of}
use Rattle.jxl_picture.proofs.orientation.oriented.Given as goal

abbrev pub invariant-loop-y : goal.invariant-loop-y
invariant-loop-y g l = record {
  wide : l.shown.width ≡ l.width;
  high : l.shown.height ≡ l.height;
  full : IsFull l.shown;
  cells : (x j : ℕ) → x < l.shown.width → j < l.y → cell l.shown x j ≡ cell l.grid (column_of l.orientation l.grid.width x j) (row_of l.orientation l.grid.height x j);
}
