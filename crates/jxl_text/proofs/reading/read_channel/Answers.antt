use Rattle.std.proofs.Common.{ap, ◌∙◌}
use Rattle.std.proofs.lemmas.Result.{err_from_is_err_and}
use Rattle.jxlm_base.specs.Grid.{grid}
use Rattle.jxl_text.proofs.Names.{name_lacks}
use Rattle.jxl_text.proofs.ReadRows.{name_wrong, rows_fail, channel_read}
use Rattle.jxl_text.proofs.reading.read_channel.Goals as goal

pub returns-in_default-clause-err : goal.returns-in_default-clause-err
returns-in_default-clause-err g c =
    rw c.wrong.ensures
    (name_wrong g.S.Sealed.width c.args.number c.args.lines.now.rest.now (name_lacks c.args.number) c.args.lines.now.taken c.next.new.self.taken _ _ c.in_ok-line.ensures.ok c.in_default.ensures
    c.in_ok-line.ensures.taken)

pub returns-in_err-cells-clause-err : goal.returns-in_err-cells-clause-err
returns-in_err-cells-clause-err g c =
    let p = err_from_is_err_and c.from_residual-in_err-cells.result c.from_residual-in_err-cells.ensures.1 in
    rw (p.1, p.2)
    (rows_fail g.S.Sealed.width c.args.number c.args.lines.now.rest.now c.args.lines.now.taken c.in_err-cells.field-0.0 _ _ c.in-Some.width c.in-Some.height c.in_ok-line.ensures.ok c.in-Some.ensures
    (rw c.in_ok-line.ensures.taken at c.in_err-cells.ensures.err))

pub returns-clause-ok : goal.returns-clause-ok
returns-clause-ok g c =
    channel_read g.S.Sealed.width c.args.number c.args.lines.now.rest.now g.S.Sealed.to_int _ c.next.new.self.rest.now c.read_rows.new.lines.rest.now c.in_ok-grid_of.field-0 c.in_ok-cells.cells.items
    c.in-Some.width c.in-Some.height c.in_ok-line.ensures.ok c.in-Some.ensures c.in_ok-cells.ensures.ok
    (c.in_ok-grid_of.ensures ∙ ap (grid c.in-Some.width c.in-Some.height) c.deref.ensures.value)
