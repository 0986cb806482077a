use Rattle.std.proofs.Common.{◌≡◌, ◌-◌, get_or, sym, subst, arith}
use Rattle.jxlm_predictor.specs.EarlierRows.{IsRowOf}
use Rattle.jxlm_predictor.specs.Standing.{row_of}
use Rattle.jxlm_predictor.proofs.EarlierLaws.{earlier_at, earlier_holds}
use Rattle.jxlm_predictor.proofs.earlier.EarlierRows.row_of.Goals as goal

pub of-requires-clause-lies : goal.of-requires-clause-lies
of-requires-clause-lies g c κs within =
    let state = c.args.state.now in
    let v = c.index-region.result.now in
    (earlier_holds state c.args.store.now c.args.nearer v c.requires.ready (omega arith) (subst (λ n. v ≡ get_or state.earlier.items (n - 1 - c.args.nearer) v) c.len.ensures c.index-region.ensures)).0

pub of-requires-clause-in_rows : goal.of-requires-clause-in_rows
of-requires-clause-in_rows g c κs within =
    let state = c.args.state.now in
    let v = c.index-region.result.now in
    (earlier_holds state c.args.store.now c.args.nearer v c.requires.ready (omega arith) (subst (λ n. v ≡ get_or state.earlier.items (n - 1 - c.args.nearer) v) c.len.ensures c.index-region.ensures)).1

pub returns-then-nearer-count : goal.returns-then-nearer-count
returns-then-nearer-count g c = λ r within.
    let state = c.args.state.now in
    let v = c.index-region.result.now in
    let same = earlier_at state c.args.nearer v r (omega arith) (subst (λ n. v ≡ get_or state.earlier.items (n - 1 - c.args.nearer) v) c.len.ensures c.index-region.ensures) in
    subst (λ e. IsRowOf e c.args.store.now (row_of state) c.of.result) (sym same) c.of.ensures

pub returns-else-nearer-count : goal.returns-else-nearer-count
returns-else-nearer-count g c = λ r within. absurd (omega arith)
