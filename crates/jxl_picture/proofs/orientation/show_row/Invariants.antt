use Rattle.std.proofs.Common.{◌≡◌, ℕ, ◌<◌}
use Rattle.std.specs.Prelude.{slice_get}
use Rattle.jxlm_base.specs.Grid.{cell}
use Rattle.jxl_picture.specs.Inner.Cells.{column_of, row_of}
use Rattle.jxl_picture.proofs.orientation.show_row.Given as goal

abbrev pub invariant-loop-x : goal.invariant-loop-x
invariant-loop-x g l = (j : ℕ) → j < l.x → slice_get l.row j ≡ cell l.grid (column_of l.orientation l.grid.width j l.y) (row_of l.orientation l.grid.height j l.y)
