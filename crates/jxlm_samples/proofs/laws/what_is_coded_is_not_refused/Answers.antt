use Rattle.jxlm_samples.proofs.Prefixes.{coded_or_fails}
use Rattle.jxlm_samples.proofs.laws.what_is_coded_is_not_refused.Goals as goal

pub returns : goal.returns
returns c s = λ w p bytes decoder old new e tried grids q whole fails. coded_or_fails _ w p bytes decoder old new e tried grids q whole fails
