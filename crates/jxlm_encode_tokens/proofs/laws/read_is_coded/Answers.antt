use Rattle.jxlm_encode_tokens.proofs.WrittenCoded.{read_coded}
use Rattle.jxlm_encode_tokens.proofs.laws.read_is_coded.Goals as goal

pub returns : goal.returns
returns g c = read_coded g.D.Decoder.meaning
