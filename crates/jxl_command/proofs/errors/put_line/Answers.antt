use Rattle.jxl_command.proofs.Reporting.{words_not_put}
use Rattle.jxl_command.proofs.errors.put_line.Goals as goal

pub returns-else-put : goal.returns-else-put
returns-else-put g c =
    let errors = c.put.new.self in
    words_not_put c.put.result (g.E.Write.contents c.args.errors.now) (g.E.Write.contents errors) (g.E.ErrorStream.has_failed errors) c.args.cause (g.D.Display.output c.args.words)
    c.if-put.false c.put.ensures
