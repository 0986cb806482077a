-- Numbers that were not taken, counted.
use Rattle.std.specs.Prelude.{◌≡◌, ℕ, zero, suc, ◌+◌, ◌<◌, List, ◌==◌, Bool, false, if◌then◌else◌}
use Rattle.std.specs.List.{list_any}

-- a number is among those that were taken
abbrev pub is_taken : List ℕ → ℕ → Bool
is_taken taken v = list_any (λ w. w == v) taken

-- how many numbers below v were not taken
unfoldable pub free_below : List ℕ → ℕ → ℕ
free_below taken zero = 0
free_below taken (suc v) = free_below taken v + (if is_taken taken v then 0 else 1)

-- The number that a digit leads to, of n numbers: it was not taken, and as many below it were not as the digit says.
pub record IsNext (n : ℕ) (taken : List ℕ) (digit v : ℕ) : Type 0 where
  pub below : v < n
  pub free : is_taken taken v ≡ false
  pub passes : free_below taken v ≡ digit
