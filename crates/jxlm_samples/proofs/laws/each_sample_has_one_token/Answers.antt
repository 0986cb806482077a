use Rattle.jxlm_samples.proofs.TokenLaw.{each_has_token}
use Rattle.jxlm_samples.proofs.laws.each_sample_has_one_token.Goals as goal

pub returns : goal.returns
returns c = each_has_token
