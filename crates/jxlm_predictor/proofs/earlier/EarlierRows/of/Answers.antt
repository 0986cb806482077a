use Rattle.std.proofs.Common.{◌≡◌, ◌≤◌, [], ◌∷◌, length, length-take-le, ◌∙◌, sym, arith}
use Rattle.std.proofs.lemmas.List.{length-reverse}
use Rattle.jxlm_predictor.specs.Standing.{earlier_held}
use Rattle.jxlm_predictor.proofs.EarlierLaws.{first_rows}
use Rattle.jxlm_predictor.proofs.earlier.EarlierRows.of.Goals as goal

pub returns-clause-held : goal.returns-clause-held
returns-clause-held g c =
    let state = c.args.state.now in
    let count = c.min-count.result in
    let long : state.earlier.len ≡ length (earlier_held state) = state.earlier.ok.0 ∙ sym (length-reverse state.earlier.items) in
    let most : count ≤ 4 = omega (arith, c.min.ensures, c.min-count.ensures) in
    let some : count ≤ length (earlier_held state) = omega (arith, long, c.len.ensures, c.min-count.ensures) in
    first_rows (earlier_held state) c.args.store.now state.y c.row_of.result c.row_of-2.result c.row_of-3.result c.row_of-4.result count most
    c.row_of.ensures c.row_of-2.ensures c.row_of-3.ensures c.row_of-4.ensures some

pub returns-clause-count : goal.returns-clause-count
returns-clause-count g c =
    let count = c.min-count.result in
    let most : count ≤ 4 = omega (arith, c.min.ensures, c.min-count.ensures) in
    let held = length-take-le count (c.row_of.result ∷ c.row_of-2.result ∷ c.row_of-3.result ∷ c.row_of-4.result ∷ []) most in
    omega (arith, held, c.len.ensures, c.min.ensures, c.min-count.ensures)
