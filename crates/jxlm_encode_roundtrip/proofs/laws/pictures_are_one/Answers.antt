use Rattle.jxlm_encode_roundtrip.proofs.TwoPictures.{one_picture}
use Rattle.jxlm_encode_roundtrip.proofs.laws.pictures_are_one.Goals as goal

pub returns : goal.returns
returns g c = one_picture g.D.Decoder.meaning
