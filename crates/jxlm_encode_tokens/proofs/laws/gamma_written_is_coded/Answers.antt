use Rattle.jxlm_encode_tokens.proofs.WrittenCoded.{gamma_written_coded}
use Rattle.jxlm_encode_tokens.proofs.laws.gamma_written_is_coded.Goals as goal

pub returns : goal.returns
returns c = gamma_written_coded
