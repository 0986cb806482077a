use Rattle.std.proofs.Common.{sym, subst, ◌∙◌}
use Rattle.std.proofs.lemmas.Result.{err_from_is_err_and}
use Rattle.jxlm_samples.specs.Lines.{IsAway}
use Rattle.jxlm_samples.proofs.RowEnds.{before_first, row_ends}
use Rattle.jxlm_samples.proofs.cell.read_stretches.Goals as goal

pub returns-in_err-read_cells-clause-gives : goal.returns-in_err-read_cells-clause-gives
returns-in_err-read_cells-clause-gives g c =
    let p = err_from_is_err_and c.from_residual.result c.from_residual.ensures.1 in
    rw (p.1, p.2) (c.in_err-read_cells.ensures _ (before_first c.requires.at))

pub read_cells-requires-2-clause-inner : goal.read_cells-requires-2-clause-inner
read_cells-requires-2-clause-inner g c κs within inside x after before = subst (λ n. IsAway x c.args.line.now.y n) c.requires.at.long (c.inner_columns-from.ensures.inner x after before)

pub returns-in_err-read_cells-2-clause-gives : goal.returns-in_err-read_cells-2-clause-gives
returns-in_err-read_cells-2-clause-gives g c =
    let p = err_from_is_err_and c.from_residual-in_err-read_cells-2.result c.from_residual-in_err-read_cells-2.ensures.1 in
    rw (p.1, p.2) (c.in_err-read_cells-2.ensures _ (c.in_ok-read_cells.ensures.0 _ (before_first c.requires.at)))

pub returns : goal.returns
returns g c =
    let whole = sym (c.read_cells-3.auto.row ∙ c.read_cells-2.auto.row ∙ c.read_cells.auto.row) in
    let ends = row_ends _ _ _ _ _ _ _ _ c.read_cells-2.new.walk _ _ c.read_cells-3.result c.read_cells-3.ensures (c.in_ok-read_cells-2.ensures.0 _ (c.in_ok-read_cells.ensures.0 _ (before_first c.requires.at))) whole in
    record { gives = ends.0; at = ends.1 }
