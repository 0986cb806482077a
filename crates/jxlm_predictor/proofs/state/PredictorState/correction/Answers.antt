use Rattle.jxlm_predictor.proofs.StandingLaws.{made_there}
use Rattle.jxlm_predictor.proofs.state.PredictorState.correction.Goals as goal

pub returns-in-Some : goal.returns-in-Some
returns-in-Some g c = λ s samples stands around.
    made_there _ c.in-Some.corrector c.predict.result s.weights s.width c.args.self.now.x c.args.self.now.y _ samples c.in-Some.is stands.corrects stands.rolls.place around c.predict.ensures
