use Rattle.jxlm_tree.proofs.FewSteps.{no_more_steps, no_step, one_step}
use Rattle.jxlm_tree.proofs.flat.a_sample_takes_few_steps.Goals as goal

pub returns : goal.returns
returns c = record { most = no_more_steps; none = no_step; one = one_step }
