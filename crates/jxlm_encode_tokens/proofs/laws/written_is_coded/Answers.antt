use Rattle.jxlm_encode_tokens.proofs.WrittenCoded.{written_coded}
use Rattle.jxlm_encode_tokens.proofs.laws.written_is_coded.Goals as goal

pub returns : goal.returns
returns c = written_coded
