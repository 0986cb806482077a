use Rattle.jxl_encode_frame.proofs.Pictures.{coding_picture}
use Rattle.jxl_encode_frame.proofs.laws.coding_is_picture.Goals as goal

pub returns : goal.returns
returns c = coding_picture
