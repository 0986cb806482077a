-- Computed examples.
use Rattle.std.specs.Prelude.{◌≡◌, ℕ, ℤ, pos, negsuc, List, [], ◌∷◌, Some, map, refl, take}
use Rattle.std.specs.Int.{int_wrap}
use Rattle.std.specs.Int.Count.{count_leading_zeros}
use Rattle.jxlm_weighted.specs.Neighbours.{Neighbours}
use Rattle.jxlm_predictor.specs.Predictions.{prediction, prediction_from, predictors}
use Rattle.jxlm_predictor.specs.Properties.{place_property}
use Rattle.jxlm_predictor.specs.declared.predictor.Predictor.TheVariants.{AvgAll, AvgWestAndNorth, SelfCorrecting}
use Rattle.jxlm_weighted.specs.WeightsHeader.{default_weights}

-- width 3, after one sample of 1: predictor 6 is 1
self_correcting_prediction : prediction (Some default_weights) (pos 1 ∷ []) 3 SelfCorrecting ≡ pos 1
unfolding int_wrap count_leading_zeros
self_correcting_prediction = refl

-- every neighbour -1
abbrev all_minus_one : Neighbours
all_minus_one = let v = negsuc 0 in record { w = v; n = v; nw = v; ne = v; nee = v; nn = v; ww = v }

average_of_all : prediction_from all_minus_one (pos 0) AvgAll ≡ pos 0
average_of_all = refl

average_of_two : prediction_from (record all_minus_one { w = negsuc 2; n = pos 0 }) (pos 0) AvgWestAndNorth ≡ negsuc 0
average_of_two = refl

-- a grid of 4 by 3, and an earlier one; the values below were computed from coordinates by a program of its own
abbrev cells : List ℤ
cells = pos 3 ∷ negsuc 4 ∷ pos 7 ∷ pos 100 ∷ pos 0 ∷ negsuc 2147483647 ∷ pos 2147483647 ∷ pos 12 ∷ pos 9 ∷ pos 8 ∷ negsuc 6 ∷ pos 6 ∷ []

abbrev earlier_cells : List ℤ
earlier_cells = pos 1 ∷ pos 2 ∷ pos 3 ∷ pos 4 ∷ pos 5 ∷ negsuc 5 ∷ pos 7 ∷ negsuc 7 ∷ negsuc 8 ∷ pos 10 ∷ pos 11 ∷ pos 2147483647 ∷ []

-- properties 2 to 15 after n of the cells, and those of the earlier channel
abbrev properties_after : ℕ → List ℤ
properties_after n =
    map (place_property (record { weights = Some default_weights; width = 4; samples = take n cells; earlier = record { width = 4; height = 3; cells = earlier_cells } ∷ [] }))
    (2 ∷ 3 ∷ 4 ∷ 5 ∷ 6 ∷ 7 ∷ 8 ∷ 9 ∷ 10 ∷ 11 ∷ 12 ∷ 13 ∷ 14 ∷ 15 ∷ 16 ∷ 17 ∷ 18 ∷ 19 ∷ [])

-- the fourteen predictions there
abbrev predictions_after : ℕ → List ℤ
predictions_after n = map (prediction (Some default_weights) (take n cells) 4) predictors

one_in_row_zero : (properties_after 1 ≡ pos 0 ∷ pos 1 ∷ pos 3 ∷ pos 3 ∷ pos 3 ∷ pos 3 ∷ pos 3 ∷ pos 3 ∷ pos 0 ∷ pos 0 ∷ pos 0 ∷ pos 0 ∷ pos 0 ∷ negsuc 23 ∷ pos 2 ∷ pos 2 ∷ pos 1 ∷ pos 1 ∷ []) × (predictions_after 1 ≡ pos 0 ∷ pos 3 ∷ pos 3 ∷ pos 3 ∷ pos 3 ∷ pos 3 ∷ pos 3 ∷ pos 3 ∷ pos 3 ∷ pos 3 ∷ pos 3 ∷ pos 3 ∷ pos 3 ∷ pos 3 ∷ [])
unfolding int_wrap count_leading_zeros
one_in_row_zero = (refl, refl)

end_of_row_one : (properties_after 7 ≡ pos 1 ∷ pos 3 ∷ pos 100 ∷ pos 2147483647 ∷ pos 100 ∷ pos 2147483647 ∷ negsuc 12 ∷ negsuc 2147483555 ∷ pos 2147483640 ∷ negsuc 92 ∷ pos 0 ∷ pos 0 ∷ negsuc 0 ∷ negsuc 743 ∷ pos 8 ∷ negsuc 7 ∷ pos 15 ∷ negsuc 14 ∷ []) × (predictions_after 7 ≡ pos 0 ∷ pos 2147483647 ∷ pos 100 ∷ pos 1073741873 ∷ pos 2147483647 ∷ pos 2147483647 ∷ pos 1073741906 ∷ pos 100 ∷ pos 7 ∷ negsuc 2147483647 ∷ pos 1073741827 ∷ pos 53 ∷ pos 100 ∷ pos 805306418 ∷ [])
unfolding int_wrap count_leading_zeros
end_of_row_one = (refl, refl)

inside_row_two : (properties_after 10 ≡ pos 2 ∷ pos 2 ∷ pos 2147483647 ∷ pos 8 ∷ pos 2147483647 ∷ pos 8 ∷ pos 2147483647 ∷ pos 7 ∷ negsuc 2147483639 ∷ pos 1 ∷ pos 2147483635 ∷ pos 2147483640 ∷ negsuc 0 ∷ pos 564 ∷ pos 11 ∷ pos 11 ∷ pos 1 ∷ pos 1 ∷ []) × (predictions_after 10 ≡ pos 0 ∷ pos 8 ∷ pos 2147483647 ∷ pos 1073741827 ∷ pos 2147483647 ∷ pos 2147483647 ∷ pos 8 ∷ pos 12 ∷ negsuc 2147483647 ∷ pos 9 ∷ negsuc 1073741819 ∷ pos 0 ∷ pos 1073741829 ∷ pos 805306374 ∷ [])
unfolding int_wrap count_leading_zeros
inside_row_two = (refl, refl)

end_of_row_two : (properties_after 11 ≡ pos 2 ∷ pos 3 ∷ pos 12 ∷ pos 7 ∷ pos 12 ∷ negsuc 6 ∷ negsuc 13 ∷ negsuc 2147483641 ∷ pos 2147483642 ∷ pos 2147483635 ∷ pos 0 ∷ negsuc 87 ∷ negsuc 14 ∷ pos 564 ∷ pos 2147483647 ∷ pos 2147483647 ∷ negsuc 2147483644 ∷ negsuc 2147483644 ∷ []) × (predictions_after 11 ≡ pos 0 ∷ negsuc 6 ∷ pos 12 ∷ pos 2 ∷ negsuc 6 ∷ negsuc 6 ∷ negsuc 48 ∷ pos 12 ∷ pos 2147483647 ∷ pos 8 ∷ pos 1073741820 ∷ pos 1073741829 ∷ pos 12 ∷ negsuc 6 ∷ [])
unfolding int_wrap count_leading_zeros
end_of_row_two = (refl, refl)

start_of_row_two : (properties_after 8 ≡ pos 2 ∷ pos 0 ∷ pos 0 ∷ pos 0 ∷ pos 0 ∷ pos 0 ∷ pos 0 ∷ pos 0 ∷ pos 0 ∷ pos 0 ∷ negsuc 2147483647 ∷ negsuc 2 ∷ pos 0 ∷ pos 11 ∷ pos 9 ∷ negsuc 8 ∷ pos 14 ∷ negsuc 13 ∷ []) × (predictions_after 8 ≡ pos 0 ∷ pos 0 ∷ pos 0 ∷ pos 0 ∷ pos 0 ∷ pos 0 ∷ negsuc 536870912 ∷ negsuc 2147483647 ∷ pos 0 ∷ pos 0 ∷ pos 0 ∷ pos 0 ∷ negsuc 1073741823 ∷ negsuc 268435454 ∷ [])
unfolding int_wrap count_leading_zeros
start_of_row_two = (refl, refl)
