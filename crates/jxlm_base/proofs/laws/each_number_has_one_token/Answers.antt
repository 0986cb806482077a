use Rattle.jxlm_bits.proofs.Tokens.{token_of}
use Rattle.jxlm_base.proofs.laws.each_number_has_one_token.Goals as goal

pub returns-clause-each : goal.returns-clause-each
returns-clause-each c = token_of
