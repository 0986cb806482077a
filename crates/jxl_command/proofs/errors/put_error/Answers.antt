use Rattle.jxl_command.proofs.Reporting.{error_put, not_put}
use Rattle.jxl_command.proofs.errors.put_error.Goals as goal

pub returns-then-put-2 : goal.returns-then-put-2
returns-then-put-2 g c = error_put _ _ _ _ _ _ _ _ _ _ _ c.if-put.true c.put.ensures c.if-put-2.true c.put-then-put.ensures c.put-then-put-2.ensures

pub returns-else-put-2 : goal.returns-else-put-2
returns-else-put-2 g c = not_put _ _ _ _ _ _ _ c.if-put-2.false c.put-then-put.ensures

pub returns-else-put : goal.returns-else-put
returns-else-put g c = not_put _ _ _ _ _ _ _ c.if-put.false c.put.ensures
