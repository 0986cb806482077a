-- Walks over the samples of a part of a channel (ISO/IEC 18181-1, Modular: properties, predictors): after which samples
-- one is, and what it says of the next sample.
use Rattle.std.specs.Prelude.{◌≡◌, ℕ, ◌+◌, ◌<◌, ℤ, pos, List, [], ◌∷◌, ◌++◌, length, map, slice_index_or, Bool, if◌then◌else◌, Option, Some, None}
use Rattle.jxlm_predictor.specs.Holding.{surroundings}
use Rattle.jxlm_predictor.specs.Predictions.{prediction, predictors}
use Rattle.jxlm_predictor.specs.Properties.{place_property, Surroundings as Place}
use Rattle.jxlm_predictor.specs.Standing.{StandsAt, setting}
use Rattle.jxlm_predictor.specs.declared.state.PredictorState.{PredictorState}
use Rattle.jxlm_weighted.specs.WeightsHeader.{default_weights}
use Rattle.jxlm_weighted.specs.declared.weights.WpHeader.{WpHeader}
use Rattle.jxl_encode_properties.specs.declared.walk.Surroundings.{Surroundings}

-- A walk as contracts see it: the state of the predictors, and the number of samples that it may take yet.
pub record Progress : Type 0 where
  pub state : PredictorState ℤ
  pub left : ℕ

abbrev pub progress : PredictorState ℤ → ℕ → Progress
progress s n = record { state = s; left = n }

-- the weights of a walk: the default ones, or none
abbrev pub weights_by : Bool → Option WpHeader
weights_by weighted = if weighted then Some default_weights else None

-- The walk is after these samples of a part of this width, in row order, with these weights; it takes 65,536 in all.
pub record IsAfter (walk : Progress) (weights : Option WpHeader) (width : ℕ) (samples : List ℤ) : Type 0 where
  pub stands : StandsAt walk.state (setting width weights []) samples
  pub count : length samples + walk.left ≡ 65536

-- what properties and predictions look at: these samples of a part of this width, and no earlier channel
abbrev pub place : Option WpHeader → ℕ → List ℤ → Place
place weights width samples = surroundings (setting width weights []) [] samples

-- These are properties 0 to 15 and all predictions of the sample after these.
pub record AreAround (around : Surroundings) (weights : Option WpHeader) (width : ℕ) (samples : List ℤ) : Type 0 where
  pub own : (k : ℕ) → k < 16 → slice_index_or around.own k (pos 0) ≡ place_property (place weights width samples) k
  pub predicted : around.predicted ≡ map (prediction weights samples width) predictors

-- whatever samples the walk is after, these are the properties and predictions of the next one
abbrev pub IsAroundOf : Progress → Surroundings → Type 0
IsAroundOf walk around = (weights : Option WpHeader) (width : ℕ) (samples : List ℤ) → IsAfter walk weights width samples → AreAround around weights width samples

-- whatever samples the walk was after, it is now after this one too
abbrev pub Takes : Progress → Progress → ℤ → Type 0
Takes old new sample = (weights : Option WpHeader) (width : ℕ) (samples : List ℤ) → IsAfter old weights width samples → IsAfter new weights width (samples ++ sample ∷ [])
