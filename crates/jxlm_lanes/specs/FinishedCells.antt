-- Three rows, of which some cells are finished.
use Rattle.std.specs.Prelude.{◌≡◌, ℕ, ◌<◌, ◌≤◌, ℤ, List, length}
use Rattle.std.specs.Int.{Width}
use Rattle.jxlm_lanes.specs.Colour.{IsTripleOf, triple_at, finished_by}

-- the cells from one on and below another are finished, and the others as they were
pub record FinishesCells (w : Width) (t from end : ℕ) (a b c a' b' c' : List ℤ) : Type 0 where
  pub first_length : length a' ≡ length a
  pub second_length : length b' ≡ length b
  pub third_length : length c' ≡ length c
  pub fits : (i : ℕ) → from ≤ i → i < end → IsTripleOf w (triple_at a b c i)
  pub each : (i : ℕ) → from ≤ i → i < end → triple_at a' b' c' i ≡ finished_by w t (triple_at a b c i)
  pub before : (i : ℕ) → i < from → triple_at a' b' c' i ≡ triple_at a b c i
  pub after : (i : ℕ) → end ≤ i → i < length a → triple_at a' b' c' i ≡ triple_at a b c i
