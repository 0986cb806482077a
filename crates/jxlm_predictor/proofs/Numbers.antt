-- The numbers of predictors.
use Rattle.std.proofs.Common.{◌≡◌, Some, refl}
use Rattle.std.specs.Prelude.{slice_get}
use Rattle.jxlm_predictor.specs.Predictions.{number_of, predictors}
use Rattle.jxlm_predictor.specs.declared.predictor.Predictor.{Predictor}
use Rattle.jxlm_predictor.specs.declared.predictor.Predictor.TheVariants as p

-- a predictor is found by its number
pub found_by_number : (x : Predictor) → slice_get predictors (number_of x) ≡ Some x
found_by_number p.Zero = refl
found_by_number p.West = refl
found_by_number p.North = refl
found_by_number p.AvgWestAndNorth = refl
found_by_number p.Select = refl
found_by_number p.Gradient = refl
found_by_number p.SelfCorrecting = refl
found_by_number p.NorthEast = refl
found_by_number p.NorthWest = refl
found_by_number p.WestWest = refl
found_by_number p.AvgWestAndNorthWest = refl
found_by_number p.AvgNorthAndNorthWest = refl
found_by_number p.AvgNorthAndNorthEast = refl
found_by_number p.AvgAll = refl
