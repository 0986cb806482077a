use Rattle.std.proofs.Common.{rules}
use Rattle.std.proofs.lemmas.Int.{wraps}
use Rattle.jxlm_base.proofs.sample.I32Sealed.wrapping_muladd_i32.Goals as goal

pub returns : goal.returns
returns c = search (rules, wraps)
