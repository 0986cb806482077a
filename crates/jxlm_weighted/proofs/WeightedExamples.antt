-- Computed examples.
use Rattle.std.specs.Prelude.{◌≡◌, pos, negsuc, [], ◌∷◌, refl}
use Rattle.std.specs.Int.{int_wrap}
use Rattle.std.specs.Int.Count.{count_leading_zeros}
use Rattle.jxlm_weighted.specs.SelfCorrecting.{self_unclamped, self_corrected, maximum_error}
use Rattle.jxlm_weighted.specs.WeightsHeader.{default_weights}

-- width 3, after one sample of 1: property 15 is -8, and p is 10 before and 8 after the clamp
self_correcting_property : maximum_error default_weights (pos 1 ∷ []) 3 ≡ negsuc 7
unfolding int_wrap count_leading_zeros
self_correcting_property = refl

self_correcting_unclamped : self_unclamped default_weights (pos 1 ∷ []) 3 ≡ pos 10
unfolding int_wrap count_leading_zeros
self_correcting_unclamped = refl

self_correcting_clamped : self_corrected default_weights (pos 1 ∷ []) 3 ≡ pos 8
unfolding int_wrap count_leading_zeros
self_correcting_clamped = refl
