-- How large the numbers of the weighted predictor get.
use Rattle.std.specs.Prelude.{ℕ, ◌+◌, ◌/◌, ◌^◌, ◌<◌, ◌≤◌, ℤ, pos, ◌*ℤ◌, List, [], ◌∷◌, sum, unsigned_abs, All, FitsSigned}
use Rattle.std.specs.Int.{w32}
use Rattle.jxlm_weighted.specs.Neighbours.{Neighbours, neighbours}
use Rattle.jxlm_weighted.specs.SelfCorrecting.{ErrorsNear, IsHeader, near, shift_of, reciprocal, weights, weighted_sum, sub_predictions}
use Rattle.jxlm_weighted.specs.declared.weights.WpHeader.{WpHeader}

-- it holds of each sub-prediction, or of each sum
abbrev pub OfEach : {X : Type 0} → (X → Type 0) → List X → Type 0
OfEach P [] = Unit {0}
OfEach P (x ∷ xs) = P x × OfEach P xs

-- the table of reciprocals is asked within its 64 entries for an error sum
abbrev pub IsInTable : ℕ → Type 0
IsInTable sum = (1 ≤ sum / 2 ^ shift_of sum + 1) × (sum / 2 ^ shift_of sum + 1 ≤ 64)

-- the ranges at a cell with these neighbours and these errors around it
pub record InRange (header : WpHeader) (a : Neighbours) (e : ErrorsNear) : Type 0 where
  pub sub_predictions_below : OfEach (λ s. unsigned_abs s < 2 ^ 37) (sub_predictions header a e)
  pub sums_in_table : OfEach IsInTable e.sums
  pub least_total : 13 ≤ sum (weights header e.sums)
  pub max_total : sum (weights header e.sums) ≤ 31
  pub weighted_below : unsigned_abs (weighted_sum (sub_predictions header a e) (weights header e.sums)) < 2 ^ 42
  pub product_below :
      unsigned_abs (weighted_sum (sub_predictions header a e) (weights header e.sums) *ℤ pos (reciprocal (sum (weights header e.sums)))) < 2 ^ 63

-- They hold at each cell, for all samples of 32 bits and all weights of a header.
abbrev pub AlwaysInRange : Type 0
AlwaysInRange = (header : WpHeader) → IsHeader header → (samples : List ℤ) (width : ℕ) → All (FitsSigned w32) samples →
    InRange header (neighbours samples width) (near header samples width)
