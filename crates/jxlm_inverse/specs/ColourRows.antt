-- The memory that undoing a colour transform takes: a row for each of three channels.
use Rattle.std.specs.Prelude.{◌≡◌, ℕ, ◌≤◌, vec_len}
use Rattle.jxlm_inverse.specs.declared.rct.RctScratch.{RctScratch}

-- there is room for rows of that width
pub record HasRoom {S : Type 0} (scratch : RctScratch S) (width : ℕ) : Type 0 where
  pub first : width ≤ vec_len scratch.first
  pub second : width ≤ vec_len scratch.second
  pub third : width ≤ vec_len scratch.third

-- as much room as before
pub record KeepsRoom {S : Type 0} (old new : RctScratch S) : Type 0 where
  pub first : vec_len new.first ≡ vec_len old.first
  pub second : vec_len new.second ≡ vec_len old.second
  pub third : vec_len new.third ≡ vec_len old.third
