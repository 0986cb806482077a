use Rattle.jxlm_encode_tokens.proofs.Pass.{tokens_kept}
use Rattle.jxlm_encode_tokens.proofs.part.clustered_tokens.Goals as goal

pub returns : goal.returns
returns g c = tokens_kept _ _ _ _ c.in_ok-tokens.ensures
