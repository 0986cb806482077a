use Rattle.std.proofs.Common.{◌+◌, arith}
use Rattle.std.proofs.lemmas.Result.{err_from_is_err_and}
use Rattle.jxl_text.proofs.ReadRows.{row_missing, row_wrong, row_more}
use Rattle.jxl_text.proofs.rows.read_rows.Goals as goal

pub returns-in_err-line-clause-err : goal.returns-in_err-line-clause-err
returns-in_err-line-clause-err g c =
    let p = err_from_is_err_and c.from_residual.result c.from_residual.ensures.1 in
    rw (p.1, p.2, c.in_err-line.ensures.err.0)
    (row_missing g.S.Sealed.to_int g.S.Sealed.width g.met.S.Sealed.fits_i32 c.args.width c.args.height c.loop-y._y c.args.lines.now.taken (c.loop-y.lines.taken + 1) c.args.lines.now.rest.now
    c.loop-y.lines.rest.now c.loop-y.cells.items c.loop-y.invariant.rows c.loop-y-test.true (omega (arith, c.loop-y.invariant.taken)) c.in_err-line.ensures.err.1)

pub returns-then-not-branch-clause-err : goal.returns-then-not-branch-clause-err
returns-then-not-branch-clause-err g c =
    rw c.wrong.ensures
    (row_wrong g.S.Sealed.to_int g.S.Sealed.width g.met.S.Sealed.fits_i32 c.args.width c.args.height c.loop-y._y c.args.lines.now.taken c.next.new.self.taken c.args.lines.now.rest.now
    c.loop-y.lines.rest.now _ _ c.loop-y.cells.items c.loop-y.invariant.rows c.loop-y-test.true (omega (arith, c.loop-y.invariant.taken, c.in_ok-line.ensures.taken)) c.in_ok-line.ensures.ok
    (rw c.if-not-branch.true at c.in_ok-read_row.ensures))

pub loop-y-preserved : goal.loop-y-preserved
loop-y-preserved g c =
    let made = rw c.if-not-branch.false at c.in_ok-read_row.ensures in
    record {
      rows = row_more g.S.Sealed.to_int g.S.Sealed.width c.args.width c.loop-y._y c.args.lines.now.rest.now c.loop-y.lines.rest.now _ _ c.loop-y.cells.items c.read_row.new.cells.items made.0
          c.loop-y.invariant.rows c.in_ok-line.ensures.ok made.1 made.2;
      taken = omega (arith, c.loop-y.invariant.taken, c.in_ok-line.ensures.taken);
    }
