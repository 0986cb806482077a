use Rattle.jxlm_encode_tokens.proofs.Pass.{values_kept}
use Rattle.jxlm_encode_tokens.proofs.part.sample_tokens.Goals as goal

pub returns : goal.returns
returns g c = values_kept _ _ _ _ c.in_ok-tokens.ensures
