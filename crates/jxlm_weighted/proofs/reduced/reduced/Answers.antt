use Rattle.std.proofs.Common.{arith}
use Rattle.std.proofs.lemmas.Int.{to_z-of_z}
use Rattle.std.specs.Int.{int_wrap}
use Rattle.jxlm_weighted.proofs.reduced.reduced.Goals as goal

pub returns : goal.returns
unfolding int_wrap
returns c = grind (arith, to_z-of_z)
