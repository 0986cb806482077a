use Rattle.std.proofs.Common.{w32}
use Rattle.std.proofs.lemmas.Int.{to_z-of_z}
use Rattle.jxlm_predictor.proofs.state.PredictorState.roll_by.Goals as goal

pub returns-then-this-ne0-clause-rolls : goal.returns-then-this-ne0-clause-rolls
returns-then-this-ne0-clause-rolls g c = λ samples rolls. rw (to_z-of_z w32 c.args.sample c.ranges.sample) at (c.roll.ensures.rolls samples rolls)

pub returns-else-this-ne0-clause-rolls : goal.returns-else-this-ne0-clause-rolls
returns-else-this-ne0-clause-rolls g c = λ samples rolls. rw (to_z-of_z w32 c.args.sample c.ranges.sample) at (c.roll_within.ensures.rolls samples rolls)
