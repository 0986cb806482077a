-- Two rolling rows and the running values beside them.
use Rattle.std.specs.Prelude.{◌≡◌, ℕ, suc, ◌+◌, ◌*◌, ◌<◌, ◌≤◌, ℤ, pos, List, length, slice_index_or}
use Rattle.jxlm_weighted.specs.Neighbours.{at, west, north, north_west}
use Rattle.jxlm_predictor.specs.Properties.{gradient_at}

-- At (x, y), after these samples in row order: the neighbours w, n and nw; property 9 of the sample before in the
-- row, 0 at its start; the row above; the current row up to x, and from there on the row two above.
pub record Rolls (width x y : ℕ) (w n nw gradient : ℤ) (previous current samples : List ℤ) : Type 0 where
  pub in_row : x < width
  pub place : length samples ≡ y * width + x
  pub west_is : w ≡ west samples width x y
  pub north_is : n ≡ north samples width x y
  pub north_west_is : nw ≡ north_west samples width x y
  pub start_is : x ≡ 0 → gradient ≡ pos 0
  pub gradient_is : (before : ℕ) → x ≡ suc before → gradient ≡ gradient_at samples width before y
  pub current_is : (i : ℕ) → i < x → slice_index_or current i (pos 0) ≡ at samples width i y
  pub previous_is : (i above : ℕ) → i < width → y ≡ suc above → slice_index_or previous i (pos 0) ≡ at samples width i above
  pub two_above_is : (i above : ℕ) → x ≤ i → i < width → y ≡ suc (suc above) → slice_index_or current i (pos 0) ≡ at samples width i above
