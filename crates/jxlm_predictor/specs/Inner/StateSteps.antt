-- How a predictor's state goes on by a sample.
use Rattle.std.specs.Prelude.{◌≡◌, ◌+◌, ◌<◌, ◌≤◌, ℤ, List}
use Rattle.jxlm_predictor.specs.Rolling.{Rolls}
use Rattle.jxlm_predictor.specs.Standing.{weights_of}
use Rattle.jxlm_predictor.specs.declared.state.PredictorState.{PredictorState}

-- the rolling rows and values are those after these samples
abbrev pub RollsIn : {S : Type 0} → PredictorState S → List ℤ → Type 0
RollsIn state samples = Rolls state.width state.x state.y state.w state.n state.nw state.gradient state.previous.items state.current.items samples

-- what a state is reset for, its room and the errors that it keeps are the same in both
pub record KeepsSetting {S : Type 0} (old new : PredictorState S) : Type 0 where
  pub same_width : new.width ≡ old.width
  pub same_room : new.room ≡ old.room
  pub same_earlier : new.earlier ≡ old.earlier
  pub same_corrector : new.corrector ≡ old.corrector
  pub same_resting : new.resting ≡ old.resting

-- both have the same weights, room and earlier channels, whether the weights are used or not
pub record DiffersInWeights {S : Type 0} (old new : PredictorState S) : Type 0 where
  pub same_room : new.room ≡ old.room
  pub same_earlier : new.earlier ≡ old.earlier
  pub same_weights : weights_of new ≡ weights_of old

-- the cell is the next one: in the row, or at the start of the next row
abbrev pub IsNext : {S : Type 0} → PredictorState S → PredictorState S → Type 0
IsNext old new = (old.x + 1 < old.width → (new.x ≡ old.x + 1) × (new.y ≡ old.y)) × (old.width ≤ old.x + 1 → (new.x ≡ 0) × (new.y ≡ old.y + 1))
