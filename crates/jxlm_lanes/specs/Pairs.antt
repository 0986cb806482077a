-- A squeezed row undone, pair by pair.
use Rattle.std.specs.Prelude.{◌≡◌, ℕ, zero, suc, ◌+◌, ◌*◌, ◌/◌, ◌<◌, nat_lt, if◌then◌else◌, ℤ, pos, ◌+ℤ◌, ◌-ℤ◌, int_div, List, map, get_or, FitsSigned}
use Rattle.std.specs.Int.{Width, int_wrap}
use Rattle.jxlm_lanes.specs.Squeeze.{tendency, averages}

module _ (w : Width) where
  -- of a pair: its difference, from the sample before it, its average, the next average and its residual; and its
  -- samples
  abbrev pub pair_difference : ℤ → ℤ → ℤ → ℤ → ℤ
  pair_difference before m next r = int_wrap w (r +ℤ tendency before m next)

  abbrev pub first_of : ℤ → ℤ → ℤ → ℤ → ℤ
  first_of before m next r = int_wrap w (m +ℤ int_div (pair_difference before m next r) (pos 2))

  abbrev pub second_of : ℤ → ℤ → ℤ → ℤ → ℤ
  second_of before m next r = int_wrap w (first_of before m next r -ℤ pair_difference before m next r)

-- of a coded row of n samples: the average after that of pair k, and the pair's own where there is none
abbrev pub next_in : ℕ → (ℕ → ℤ) → ℕ → ℤ
next_in n code k = if nat_lt (k + 1) (averages n) then code (k + 1) else code k

module _ (w : Width) where
  -- the sample before pair k, and the first average where there is none
  abbrev pub before_in : ℕ → (ℕ → ℤ) → ℕ → ℤ
  before_in n code zero = code 0
  before_in n code (suc k) = second_of w (before_in n code k) (code k) (next_in n code k) (code (averages n + k))

  abbrev pub first_in : ℕ → (ℕ → ℤ) → ℕ → ℤ
  first_in n code k = first_of w (before_in n code k) (code k) (next_in n code k) (code (averages n + k))

  -- row is the coded row undone: its pairs, and a last single sample
  pub record IsUnsqueezed (n : ℕ) (code row : ℕ → ℤ) : Type 0 where
    pub first : (k : ℕ) → k < n / 2 → row (2 * k) ≡ first_in n code k
    pub second : (k : ℕ) → k < n / 2 → row (2 * k + 1) ≡ before_in n code (suc k)
    pub single : n / 2 < averages n → row (2 * (n / 2)) ≡ code (n / 2)

-- the number that element i of a list stands for, and 0 where there is none
abbrev pub number_at : {S : Type 0} → (S → ℤ) → List S → ℕ → ℤ
number_at f xs i = get_or (map f xs) i (pos 0)

module _ {S : Type 0} (f : S → ℤ) where
  -- sample j of line i, where line i begins at start and i times stride: column j, or row j where rows are turned
  abbrev pub line_in : List S → ℕ → ℕ → ℕ → ℕ → ℤ
  line_in cells start stride j i = number_at f cells (start + i * stride + j)

-- pairs of columns: averages, next averages and residuals are lines of n columns; the samples before the pairs stand
-- in a strip, from start on, and those of the pairs in the two lines after them
module _ {S : Type 0} (f : S → ℤ) (w : Width) (averages next residuals : List S) (n start : ℕ) where
  -- p of what pair i is made of
  abbrev pub of_column : (ℤ → ℤ → ℤ → ℤ → ℤ) → List S → ℕ → ℤ
  of_column p strip i =
      p (number_at f strip (start + i)) (number_at f averages i) (number_at f next i) (number_at f residuals i)

  -- the pairs of the first j columns are undone
  pub record ArePairs (strip : List S) (j : ℕ) : Type 0 where
    pub first : (i : ℕ) → i < j → number_at f strip (start + n + i) ≡ of_column (first_of w) strip i
    pub second : (i : ℕ) → i < j → number_at f strip (start + 2 * n + i) ≡ of_column (second_of w) strip i
    pub averages_fit : (i : ℕ) → i < j → FitsSigned w (number_at f averages i)
    pub residuals_fit : (i : ℕ) → i < j → FitsSigned w (number_at f residuals i)
