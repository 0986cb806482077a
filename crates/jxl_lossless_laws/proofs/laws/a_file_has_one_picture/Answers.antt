use Rattle.jxl_lossless_laws.proofs.OneFile.{one_picture}
use Rattle.jxl_lossless_laws.proofs.laws.a_file_has_one_picture.Goals as goal

pub returns : goal.returns
returns c = one_picture
