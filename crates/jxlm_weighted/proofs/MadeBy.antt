-- What is made of a cell, where there are weights.
use Rattle.std.proofs.Common.{◌≡◌, ℕ, pos, ℤ, List, Some, None, Option, refl}
use Rattle.jxlm_weighted.specs.Correcting.{Corrects, CorrectsAfter, CorrectsBy, IsMade, IsMadeBy, near_of}
use Rattle.jxlm_weighted.specs.Inner.CorrectingSteps.{CorrectsNext}
use Rattle.jxlm_weighted.specs.SelfCorrecting.{weighted_prediction, error_property, greatest}
use Rattle.jxlm_weighted.specs.declared.weights.WpHeader.{WpHeader}
use Rattle.jxlm_weighted.specs.declared.self_correcting.Corrector.{Corrector}
use Rattle.jxlm_weighted.specs.declared.self_correcting.PredictionResult.{PredictionResult}

-- what a record of the errors gives, where there are weights
pub recorded : (c d : Corrector) (r : PredictionResult) (weights : Option WpHeader) (width x y : ℕ) (samples more : List ℤ) → Corrects (Some c) weights width x y samples → IsMade (Some r) weights width samples →
    ((header : WpHeader) → CorrectsBy c header width x y samples → IsMadeBy r header width samples → CorrectsNext d header width x y more) → CorrectsAfter (Some d) weights width x y more
recorded c d r None width x y samples more h made step = absurd h
recorded c d r (Some w) width x y samples more h made step = step w h made

-- without weights there is no maximum error
pub error-some : (o : Option WpHeader) (r : PredictionResult) (width : ℕ) (samples : List ℤ) → IsMade (Some r) o width samples → greatest (near_of r.errors) ≡ error_property o samples width
error-some None r width samples h = absurd h
error-some (Some w) r width samples h = h.errors_are

pub error-none : (o : Option WpHeader) (width : ℕ) (samples : List ℤ) → IsMade None o width samples → pos 0 ≡ error_property o samples width
error-none None width samples h = refl
error-none (Some w) width samples h = absurd h

-- nor a prediction
pub corrected-some : (o : Option WpHeader) (r : PredictionResult) (width : ℕ) (samples : List ℤ) → IsMade (Some r) o width samples → r.prediction ≡ weighted_prediction o samples width
corrected-some None r width samples h = absurd h
corrected-some (Some w) r width samples h = h.prediction_is

pub corrected-none : (o : Option WpHeader) (width : ℕ) (samples : List ℤ) → IsMade None o width samples → pos 0 ≡ weighted_prediction o samples width
corrected-none None width samples h = refl
corrected-none (Some w) width samples h = absurd h
