use Rattle.jxl_command.proofs.Reporting.{put_unknown}
use Rattle.jxl_command.proofs.errors.StderrErrorStream.put.Goals as goal

pub returns : goal.returns
returns g c = put_unknown _ _ _
