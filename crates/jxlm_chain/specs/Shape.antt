-- What stays of a store where only cells change.
use Rattle.std.specs.Prelude.{◌≡◌, ℕ, List, length}
use Rattle.jxlm_base.specs.Grid.{Grid, IsFull}
use Rattle.jxlm_base.specs.Outside.{buffer_at}

-- as many buffers, of the same sides, and full where they were
pub record SameShape {S : Type 0} (old new : List (Grid S)) : Type 0 where
  pub count : length new ≡ length old
  pub width : (b : ℕ) → (buffer_at new b).width ≡ (buffer_at old b).width
  pub height : (b : ℕ) → (buffer_at new b).height ≡ (buffer_at old b).height
  pub full : (b : ℕ) → IsFull (buffer_at old b) → IsFull (buffer_at new b)
