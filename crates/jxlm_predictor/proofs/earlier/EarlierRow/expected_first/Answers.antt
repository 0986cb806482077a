use Rattle.std.proofs.Common.{◌-◌, FitsSigned, ◌∙◌, refl, arith, rules}
use Rattle.std.specs.Int.{w32}
use Rattle.std.proofs.lemmas.Int.{to_z-of_z}
use Rattle.jxlm_base.specs.Regions.{grid_of, store_meanings}
use Rattle.jxlm_predictor.proofs.ExpectedLaws.{expected_first_column, row_below}
use Rattle.jxlm_predictor.proofs.earlier.EarlierRow.expected_first.Goals as goal

pub returns-else-y-eq0 : goal.returns-else-y-eq0
returns-else-y-eq0 g c r store h =
    let grid = grid_of (store_meanings g.S.Sealed.to_int store) r in
    let f : FitsSigned w32 c.cell_above.result = search rules in
    let above = row_below r store c.args.y c.args.self h (c.args.y - 1) (omega arith) in
    to_z-of_z w32 c.cell_above.result f ∙ c.cell_above.ensures r store (c.args.y - 1) above ∙ expected_first_column grid 0 c.args.y (c.args.y - 1) refl (omega arith)
