use Rattle.std.proofs.Common.{refl}
use Rattle.jxlm_predictor.proofs.state.PredictorState.roomy.Goals as goal

pub with_room-requires : goal.with_room-requires
with_room-requires g c = (rw c.in-Some.is at c.requires.weights) c.in-Some.weights.now refl
