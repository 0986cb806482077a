use Rattle.jxl_encode_frame.proofs.Stills.{sections_still}
use Rattle.jxl_encode_frame.proofs.laws.sections_are_still.Goals as goal

pub returns : goal.returns
returns g c = sections_still g.D.Decoder.meaning g.S.Sealed.width
