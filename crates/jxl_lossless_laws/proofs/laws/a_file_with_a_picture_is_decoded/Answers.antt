use Rattle.jxl_lossless_laws.proofs.OneFile.{picture_decoded}
use Rattle.jxl_lossless_laws.proofs.laws.a_file_with_a_picture_is_decoded.Goals as goal

pub returns : goal.returns
returns c = picture_decoded
