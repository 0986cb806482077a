use Rattle.std.proofs.Common.{◌≡◌, [], take}
use Rattle.jxl_profile_write.specs.Inner.Tokens.{tokens_after}
use Rattle.jxl_profile_write.proofs.contexts.tokens.Given as goal

abbrev pub invariant-loop-i : goal.invariant-loop-i
invariant-loop-i l = l.tokens.items ≡ tokens_after l.separate [] (take l.i l.bytes)
