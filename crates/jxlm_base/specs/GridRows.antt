-- The rows of a grid, one after the other.
use Rattle.std.specs.Prelude.{◌-◌, List, map}
use Rattle.std.specs.List.{range_with_len}
use Rattle.jxlm_base.specs.Grid.{Grid, below, row}
use Rattle.jxlm_base.specs.declared.grid.Rows.{Rows}

module _ {S : Type 0} where
  -- all rows, from top to bottom
  abbrev pub all_rows : Grid S → List (List S)
  all_rows g = map (row g) (below g.height)

  -- the rows that an iterator has left
  abbrev pub rows_left : Rows S → List (List S)
  rows_left it = map (row it.grid.now) (range_with_len it.next (it.grid.now.height - it.next))
