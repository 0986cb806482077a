use Rattle.jxlm_encode_roundtrip.proofs.EncodedPictures.{second_is_picture}
use Rattle.jxlm_encode_roundtrip.proofs.laws.encoded2_is_a_picture.Goals as goal

pub returns : goal.returns
returns c = λ w ts nodes image bytes bit_depth e. second_is_picture c.each_tree_is_read_exactly.ensures.exactly w ts nodes image bytes bit_depth e
