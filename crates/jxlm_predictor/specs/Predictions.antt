-- The fourteen predictions (ISO/IEC 18181-1, Modular: predictors).
use Rattle.std.specs.Prelude.{ℕ, nat_lt, if◌then◌else◌, Bool, true, false, ℤ, pos, ◌+ℤ◌, ◌-ℤ◌, ◌*ℤ◌, unsigned_abs, int_div, List, [], ◌∷◌, slice_get, Option, Some, None, Result, Ok, Err, codes, ◌≡◌}
use Rattle.std.specs.Int.{w32, int_wrap, int_shr}
use Rattle.jxlm_bits.specs.ErrorKind.{BadEnum, bitstream_kind}
use Rattle.jxlm_bits.specs.Numbers.{clamped_gradient}
use Rattle.jxlm_bits.specs.declared.bits.BitstreamError.{BitstreamError}
use Rattle.jxlm_weighted.specs.Neighbours.{Neighbours, neighbours}
use Rattle.jxlm_weighted.specs.SelfCorrecting.{weighted_prediction}
use Rattle.jxlm_predictor.specs.declared.predictor.Predictor.{Predictor}
use Rattle.jxlm_predictor.specs.declared.predictor.Predictor.TheVariants.{Zero, West, North, AvgWestAndNorth, Select, Gradient, SelfCorrecting, NorthEast, NorthWest, WestWest, AvgWestAndNorthWest, AvgNorthAndNorthWest, AvgNorthAndNorthEast, AvgAll}
use Rattle.jxlm_weighted.specs.declared.weights.WpHeader.{WpHeader}

-- the predictors by number
abbrev pub predictors : List Predictor
predictors = Zero ∷ West ∷ North ∷ AvgWestAndNorth ∷ Select ∷ Gradient ∷ SelfCorrecting ∷ NorthEast ∷ NorthWest ∷ WestWest ∷ AvgWestAndNorthWest ∷ AvgNorthAndNorthWest ∷ AvgNorthAndNorthEast ∷ AvgAll ∷ []

-- what a number gives as a predictor: the one at its index of the list, or the error of a number that names none
abbrev pub IsPredictorOf : ℕ → Result Predictor BitstreamError → Type 0
IsPredictorOf number (Ok predictor) = slice_get predictors number ≡ Some predictor
IsPredictorOf number (Err e) = (slice_get predictors number ≡ None) × (bitstream_kind e ≡ BadEnum (codes "MaProperty") number)

-- the number of a predictor
abbrev pub number_of : Predictor → ℕ
number_of Zero = 0
number_of West = 1
number_of North = 2
number_of AvgWestAndNorth = 3
number_of Select = 4
number_of Gradient = 5
number_of SelfCorrecting = 6
number_of NorthEast = 7
number_of NorthWest = 8
number_of WestWest = 9
number_of AvgWestAndNorthWest = 10
number_of AvgNorthAndNorthWest = 11
number_of AvgNorthAndNorthEast = 12
number_of AvgAll = 13

-- of all predictors, the weighted one
abbrev pub is_self_correcting : Predictor → Bool
is_self_correcting SelfCorrecting = true
is_self_correcting other = false

-- what a predictor makes of the neighbours, p being the weighted prediction times 8; division is toward zero
abbrev pub prediction_from : Neighbours → ℤ → Predictor → ℤ
prediction_from a p Zero = pos 0
prediction_from a p West = a.w
prediction_from a p North = a.n
prediction_from a p AvgWestAndNorth = int_div (a.w +ℤ a.n) (pos 2)
prediction_from a p Select = if nat_lt (unsigned_abs (a.n -ℤ a.nw)) (unsigned_abs (a.w -ℤ a.nw)) then a.w else a.n
prediction_from a p Gradient = clamped_gradient a.n a.w a.nw
prediction_from a p SelfCorrecting = int_shr (p +ℤ pos 3) 3
prediction_from a p NorthEast = a.ne
prediction_from a p NorthWest = a.nw
prediction_from a p WestWest = a.ww
prediction_from a p AvgWestAndNorthWest = int_div (a.w +ℤ a.nw) (pos 2)
prediction_from a p AvgNorthAndNorthWest = int_div (a.n +ℤ a.nw) (pos 2)
prediction_from a p AvgNorthAndNorthEast = int_div (a.n +ℤ a.ne) (pos 2)
prediction_from a p AvgAll = int_div (pos 6 *ℤ a.n -ℤ pos 2 *ℤ a.nn +ℤ pos 7 *ℤ a.w +ℤ a.ww +ℤ a.nee +ℤ pos 3 *ℤ a.ne +ℤ pos 8) (pos 16)

-- the prediction at the cell after the samples, reduced to 32 bits
abbrev pub prediction : Option WpHeader → List ℤ → ℕ → Predictor → ℤ
prediction weights samples width predictor = int_wrap w32 (prediction_from (neighbours samples width) (weighted_prediction weights samples width) predictor)
