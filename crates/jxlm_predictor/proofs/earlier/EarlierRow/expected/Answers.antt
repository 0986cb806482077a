use Rattle.std.proofs.Common.{◌-◌, FitsSigned, ◌∙◌, arith, rules}
use Rattle.std.specs.Int.{w32}
use Rattle.std.proofs.lemmas.Int.{to_z-of_z}
use Rattle.jxlm_base.specs.Regions.{grid_of, store_meanings}
use Rattle.jxlm_predictor.proofs.ExpectedLaws.{expected_first_row, expected_inside, row_below}
use Rattle.jxlm_predictor.proofs.earlier.EarlierRow.expected.Goals as goal

pub returns-then-x-eq0 : goal.returns-then-x-eq0
returns-then-x-eq0 g c r store h =
    let f : FitsSigned w32 c.expected_first.result = search rules in
    to_z-of_z w32 c.expected_first.result f ∙ rw c.if-x-eq0.true (c.expected_first.ensures r store h)

pub returns-then-y-eq0 : goal.returns-then-y-eq0
returns-then-y-eq0 g c r store h =
    let grid = grid_of (store_meanings g.S.Sealed.to_int store) r in
    let f : FitsSigned w32 c.cell.result = search rules in
    to_z-of_z w32 c.cell.result f ∙ c.cell.ensures r store c.args.y h ∙ expected_first_row grid c.args.x c.args.y (c.args.x - 1) (omega arith) (omega arith)

pub returns-else-y-eq0 : goal.returns-else-y-eq0
returns-else-y-eq0 g c r store h =
    let grid = grid_of (store_meanings g.S.Sealed.to_int store) r in
    let x = c.args.x in
    let y = c.args.y in
    let above = row_below r store y c.args.self h (y - 1) (omega arith) in
    let f : FitsSigned w32 c.grad_clamped.result = search rules in
    let f1 : FitsSigned w32 c.cell_above.result = search rules in
    let f2 : FitsSigned w32 c.cell-else-y-eq0.result = search rules in
    let f3 : FitsSigned w32 c.cell_above-else-y-eq0.result = search rules in
    to_z-of_z w32 c.grad_clamped.result f
    ∙ c.grad_clamped.ensures
    ∙ rw (to_z-of_z w32 c.cell_above.result f1, to_z-of_z w32 c.cell-else-y-eq0.result f2, to_z-of_z w32 c.cell_above-else-y-eq0.result f3, c.cell_above.ensures r store (y - 1) above, c.cell-else-y-eq0.ensures r store y h, c.cell_above-else-y-eq0.ensures r store (y - 1) above)
    (expected_inside grid x y (x - 1) (y - 1) (omega arith) (omega arith))
