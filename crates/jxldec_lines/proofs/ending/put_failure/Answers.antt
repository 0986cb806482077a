use Rattle.std.proofs.Common.{Option, subst}
use Rattle.std.specs.declared.io.Error.{Error}
use Rattle.jxl_command.specs.Streams.{IsReportedLine}
use Rattle.jxldec_lines.specs.Failures.{failure_line}
use Rattle.jxldec_lines.proofs.ending.put_failure.Goals as goal

pub returns : goal.returns
returns g c =
    let errors = c.put_line.new.errors in
    subst (λ (cause : Option Error). IsReportedLine c.put_line.result (g.E.Write.contents c.args.errors.now) (g.E.Write.contents errors) (g.E.ErrorStream.has_failed errors) cause
    (failure_line c.args.name.now c.args.failure)) c.cause-cause.ensures c.put_line.ensures
