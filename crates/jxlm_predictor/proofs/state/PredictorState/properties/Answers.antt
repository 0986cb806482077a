use Rattle.jxlm_predictor.proofs.EarlierLaws.{no_rows}
use Rattle.jxlm_predictor.specs.Standing.{earlier_held, row_of}
use Rattle.jxlm_predictor.proofs.state.PredictorState.properties.Goals as goal

pub properties_by_rows-requires-clause-rows : goal.properties_by_rows-requires-clause-rows
properties_by_rows-requires-clause-rows g c = no_rows (earlier_held c.args.self.now) c.args.store.now (row_of c.args.self.now)
