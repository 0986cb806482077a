use Rattle.jxlm_plain.proofs.GammaCodes.{gamma_tokens_are_codes}
use Rattle.jxlm_plain.proofs.plain2.gamma_tokens_are_codes.Goals as goal

pub returns : goal.returns
returns c = gamma_tokens_are_codes
