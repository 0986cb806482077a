use Rattle.jxl_container.proofs.FileLaws.{one_codestream}
use Rattle.jxl_container.proofs.laws.each_file_has_one_codestream.Goals as goal

pub returns : goal.returns
returns c = one_codestream
