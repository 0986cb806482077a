-- The steps of the weighted predictor: what the code makes of a cell, and how it goes on to the next.
use Rattle.std.specs.Prelude.{ℕ, zero, suc, ◌+◌, ◌*◌, ◌/◌, ◌%◌, ◌^◌, ◌<◌, ◌≤◌, ℤ, pos, ◌-ℤ◌, ◌*ℤ◌, unsigned_abs, nat_lt, Bool, if◌then◌else◌, List, [], ◌∷◌, map, slice_index}
use Rattle.std.specs.Int.{w32, int_wrap, int_min, int_max}
use Rattle.jxlm_bits.specs.Numbers.{clamp}
use Rattle.jxlm_weighted.specs.Correcting.{CorrectsBy}
use Rattle.jxlm_weighted.specs.Neighbours.{Neighbours}
use Rattle.jxlm_weighted.specs.SelfCorrecting.{Errors, errors_above}
use Rattle.jxlm_weighted.specs.declared.weights.WpHeader.{WpHeader}
use Rattle.jxlm_weighted.specs.declared.self_correcting.Corrector.{Corrector}

-- z, clamped between the minimum and the maximum of north, west and north east, each times 8
abbrev pub clamped_around : Neighbours → ℤ → ℤ
clamped_around a z = clamp (int_min (int_min (a.n *ℤ pos 8) (a.w *ℤ pos 8)) (a.ne *ℤ pos 8)) (int_max (int_max (a.n *ℤ pos 8) (a.w *ℤ pos 8)) (a.ne *ℤ pos 8)) z

-- those above left; in column 0 those above
abbrev pub errors_above_left : List Errors → ℕ → ℕ → ℕ → Errors
errors_above_left errors width zero y = errors_above errors width zero y
errors_above_left errors width (suc x) y = errors_above errors width x y

-- those above right; in the last column those above
abbrev pub errors_above_right : List Errors → ℕ → ℕ → ℕ → Errors
errors_above_right errors width x y = if nat_lt (x + 1) width then errors_above errors width (x + 1) y else errors_above errors width x y

-- the sums of the errors at north west, two to the west, north, west and north east; whether the column is the last
abbrev pub sums_from : List ℕ → List ℕ → List ℕ → List ℕ → List ℕ → Bool → List ℕ
sums_from nw ww n w ne last = map of_one (0 ∷ 1 ∷ 2 ∷ 3 ∷ []) where
  of_one : ℕ → ℕ
  of_one k = (slice_index nw k + slice_index ww k + slice_index n k + slice_index w k + (if last then slice_index n k + slice_index w k else slice_index ne k)) % 2 ^ 32

-- the errors of a cell with this prediction and these sub-predictions after its sample
abbrev pub errors_from : ℤ → List ℤ → ℤ → Errors
errors_from prediction subs sample = record {
  true_error = int_wrap w32 (prediction -ℤ sample *ℤ pos 8);
  sub_errors = map (λ s. (unsigned_abs (s -ℤ sample *ℤ pos 8) + 3) / 8 % 2 ^ 32) subs;
}

-- at the cell after (x, y) the corrector keeps the errors of these samples
abbrev pub CorrectsNext : Corrector → WpHeader → ℕ → ℕ → ℕ → List ℤ → Type 0
CorrectsNext c header width x y samples = (x + 1 < width → CorrectsBy c header width (x + 1) y samples) × (width ≤ x + 1 → CorrectsBy c header width 0 (y + 1) samples)
