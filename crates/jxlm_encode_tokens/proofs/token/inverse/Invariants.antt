use Rattle.jxlm_encode_tokens.proofs.Inverse.{Undoes}
use Rattle.jxlm_encode_tokens.proofs.token.inverse.Given as goal

abbrev pub invariant-loop-k : goal.invariant-loop-k
invariant-loop-k l = Undoes l.odd l.k l.by
