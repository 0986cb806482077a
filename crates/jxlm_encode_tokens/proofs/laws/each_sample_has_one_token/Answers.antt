use Rattle.jxlm_encode_tokens.proofs.OneToken.{one_token}
use Rattle.jxlm_encode_tokens.proofs.laws.each_sample_has_one_token.Goals as goal

pub returns : goal.returns
returns c = one_token
