use Rattle.std.proofs.Common.{◌≡◌, ◌++◌, replicate}
use Rattle.jxl_patches_write.specs.Inner.Tokens.{add_token}
use Rattle.jxl_patches_write.proofs.tokens.add_modes.Given as goal

abbrev pub invariant-loop : goal.invariant-loop
invariant-loop l = l.tokens.items ≡ l.fn.tokens.items ++ replicate l.counter add_token
