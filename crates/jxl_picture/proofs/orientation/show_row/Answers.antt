use Rattle.std.proofs.Common.{◌≡◌, arith}
use Rattle.jxlm_base.specs.Grid.{cell}
use Rattle.jxl_picture.specs.Inner.Cells.{column_of, row_of}
use Rattle.jxl_picture.proofs.Orienting.{one_more_cell}
use Rattle.jxl_picture.proofs.orientation.show_row.Goals as goal

pub loop-x-init : goal.loop-x-init
loop-x-init g c = λ j h. absurd (omega (arith, h))

pub loop-x-preserved : goal.loop-x-preserved
loop-x-preserved g c =
    let grid = c.args.grid.now in
    let o = c.args.orientation in
    let column : c.column_of-column.result ≡ column_of o grid.width c.loop-x.x c.args.y = rw (c.width.ensures.value) at c.column_of-column.ensures.value in
    let row : c.row_of.result ≡ row_of o grid.height c.loop-x.x c.args.y = rw (c.height.ensures.value) at c.row_of.ensures.value in
    one_more_cell (λ j. cell grid (column_of o grid.width j c.args.y) (row_of o grid.height j c.args.y)) c.loop-x.row c.loop-x.x c.get.result (omega (arith, c.loop-x.auto.row, c.loop-x-test.true))
    (rw (column, row) at c.get.ensures) c.loop-x.invariant

pub returns-clause-cells : goal.returns-clause-cells
returns-clause-cells g c = λ x h. c.loop-x.invariant x (omega (arith, h, c.loop-x-test.false))
