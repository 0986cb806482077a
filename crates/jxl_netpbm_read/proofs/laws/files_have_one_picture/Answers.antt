use Rattle.jxl_netpbm_read.proofs.OnePicture.{has_one_picture}
use Rattle.jxl_netpbm_read.proofs.laws.files_have_one_picture.Goals as goal

pub returns : goal.returns
returns c = has_one_picture
