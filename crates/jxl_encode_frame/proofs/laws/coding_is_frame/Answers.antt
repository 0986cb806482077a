use Rattle.jxl_encode_frame.proofs.Frames.{coding_frame}
use Rattle.jxl_encode_frame.proofs.laws.coding_is_frame.Goals as goal

pub returns : goal.returns
returns g c = coding_frame g.D.Decoder.meaning
