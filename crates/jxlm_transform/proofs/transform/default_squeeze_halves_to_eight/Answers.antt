use Rattle.jxlm_transform.proofs.SmallSides.{takes_fewest_steps, leaves_small_sides}
use Rattle.jxlm_transform.proofs.transform.default_squeeze_halves_to_eight.Goals as goal

pub returns-clause-steps : goal.returns-clause-steps
returns-clause-steps c = takes_fewest_steps

pub returns-clause-sides : goal.returns-clause-sides
returns-clause-sides c = leaves_small_sides
