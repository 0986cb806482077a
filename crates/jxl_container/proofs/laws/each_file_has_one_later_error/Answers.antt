use Rattle.jxl_container.proofs.FileLaws.{one_later_error}
use Rattle.jxl_container.proofs.laws.each_file_has_one_later_error.Goals as goal

pub returns : goal.returns
returns c = one_later_error
