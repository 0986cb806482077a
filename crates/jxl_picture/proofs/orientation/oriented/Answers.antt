use Rattle.std.proofs.Common.{◌≡◌, ◌<◌, rules, arith, ◌∙◌}
use Rattle.std.specs.Prelude.{if◌then◌else◌}
use Rattle.jxlm_base.specs.Grid.{cell}
use Rattle.jxlm_base.proofs.RegionRows.{IsFull-with_row}
use Rattle.jxl_picture.specs.Orientations.{is_turned}
use Rattle.jxl_picture.specs.Inner.Cells.{column_of, row_of}
use Rattle.jxl_picture.proofs.Orienting.{one_more_row}
use Rattle.jxl_picture.proofs.orientation.oriented.Goals as goal

pub loop-y-init : goal.loop-y-init
loop-y-init g c = record {
  wide = rw c.in_ok-shown.ensures.zero (search rules);
  high = rw c.in_ok-shown.ensures.zero (search rules);
  full = c.in_ok-shown.ensures.full;
  cells = λ x j h k. absurd (omega (arith, k));
}

pub get_row_mut-requires : goal.get_row_mut-requires
get_row_mut-requires g c = omega (arith, c.loop-y.invariant.high, c.loop-y-test.true)

pub show_row-requires-clause-wide : goal.show_row-requires-clause-wide
show_row-requires-clause-wide g c κs within =
    let grid = c.args.grid.now in
    let wide : c.one_of-width.result ≡ (if is_turned c.args.orientation then grid.height else grid.width) = rw (c.width.ensures.value, c.height.ensures.value) at c.one_of-width.ensures in
    c.get_row_mut.ensures.len ∙ c.loop-y.invariant.wide ∙ wide

pub loop-y-preserved : goal.loop-y-preserved
loop-y-preserved g c =
    let grid = c.args.grid.now in
    let o = c.args.orientation in
    let below : c.loop-y.y < c.loop-y.shown.height = omega (arith, c.loop-y.invariant.high, c.loop-y-test.true) in
    let long = c.show_row.ensures.same ∙ c.get_row_mut.ensures.len in
    record {
      wide = c.loop-y.invariant.wide;
      high = c.loop-y.invariant.high;
      full = IsFull-with_row c.loop-y.shown c.loop-y.invariant.full c.loop-y.y below c.show_row.new.row long;
      cells = one_more_row (λ x j. cell grid (column_of o grid.width x j) (row_of o grid.height x j)) c.loop-y.shown c.loop-y.y c.show_row.new.row c.loop-y.invariant.full below long
          (λ x h. c.show_row.ensures.cells x (omega (arith, h, c.show_row.ensures.same))) c.loop-y.invariant.cells;
    }

pub returns : goal.returns
returns g c =
    let grid = c.args.grid.now in
    let wide : c.one_of-width.result ≡ (if is_turned c.args.orientation then grid.height else grid.width) = rw (c.width.ensures.value, c.height.ensures.value) at c.one_of-width.ensures in
    let high : c.one_of-height.result ≡ (if is_turned c.args.orientation then grid.width else grid.height) = rw (c.height-2.ensures.value, c.width-2.ensures.value) at c.one_of-height.ensures in
    record {
      wide = c.loop-y.invariant.wide ∙ wide;
      high = c.loop-y.invariant.high ∙ high;
      cells = λ x y h k. c.loop-y.invariant.cells x y h (omega (arith, k, c.loop-y.invariant.high, c.loop-y-test.false));
    }
