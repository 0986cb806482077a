use Rattle.std.proofs.Common.{string_bytes}
use Rattle.jxl_command.proofs.Reporting.{nothing_reported}
use Rattle.jxldec_lines.proofs.NoLines.{no_lines_so}
use Rattle.jxldec_lines.specs.Warnings.{warning_lines}
use Rattle.jxldec_lines.proofs.warning.warn.Goals as goal

pub returns-then-is_none-clause-lines : goal.returns-then-is_none-clause-lines
returns-then-is_none-clause-lines g c =
    let l = c.args.left_out.now in
    nothing_reported (g.E.Write.contents c.args.errors.now) (g.E.ErrorStream.has_failed c.args.errors.now)
    (warning_lines c.args.name.now (string_bytes l.channels) l.loss l.frames l.later_error)
    (no_lines_so c.args.name.now (string_bytes l.channels) c.as_str-channels.result.now l.loss l.frames l.later_error c.is_empty.result c.has_line.result c.has_more.result c.is_none.result
    c.as_str-channels.ensures.value c.is_empty.ensures c.if-is_empty.true c.has_line.ensures c.if-not-has_line.true c.has_more.ensures c.if-not-has_more.true c.is_none.ensures c.if-is_none.true)
