use Rattle.jxlm_samples.proofs.Places.{each_sees_before}
use Rattle.jxlm_samples.proofs.laws.each_sample_sees_what_is_before.Goals as goal

pub returns : goal.returns
returns c = each_sees_before
