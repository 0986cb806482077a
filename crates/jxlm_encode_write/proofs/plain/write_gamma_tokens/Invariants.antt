use Rattle.std.proofs.Common.{◌≡◌, ◌++◌}
use Rattle.std.specs.Prelude.{take}
use Rattle.jxlm_encode_write.specs.Tokens.{gamma_token_bits}
use Rattle.jxlm_encode_write.proofs.plain.write_gamma_tokens.Given as goal

abbrev pub invariant-loop-token : goal.invariant-loop-token
invariant-loop-token l = l.bits ≡ l.fn.bits ++ gamma_token_bits (take l.token-index l.tokens)
