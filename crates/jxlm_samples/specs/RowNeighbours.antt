-- The neighbours of a cell in its row and in the row above (ISO/IEC 18181-1, Modular: neighbouring samples).
use Rattle.std.specs.Prelude.{ℕ, zero, suc, ℤ, pos, ◌+ℤ◌, ◌-ℤ◌, List, get_or, Bool, true, false}
use Rattle.std.specs.Int.{w32, int_wrap}
use Rattle.jxlm_bits.specs.Numbers.{clamped_gradient}
use Rattle.jxlm_predictor.specs.Sums.{clamp_sum}

-- the neighbours in column x of a row, from the row above (none above the first row) and the cells of the row before it
module _ (above row : List ℤ) where
  -- left; in column 0 above; at the start 0
  abbrev pub west_in : ℕ → ℤ
  west_in zero = get_or above 0 (pos 0)
  west_in (suc x) = get_or row x (pos 0)

  -- above; in the first row as west
  abbrev pub north_in : ℕ → ℤ
  north_in x = get_or above x (west_in x)

  -- above left; in the first row and in column 0 as west
  abbrev pub north_west_in : ℕ → ℤ
  north_west_in zero = west_in zero
  north_west_in (suc x) = get_or above x (west_in (suc x))

  -- the clamped gradient of these three, reduced to 32 bits
  abbrev pub gradient_in : ℕ → ℤ
  gradient_in x = int_wrap w32 (clamped_gradient (north_in x) (west_in x) (north_west_in x))

-- a sum as property 9 has it, clamped or reduced to 32 bits
abbrev pub sum_by : Bool → ℤ → ℤ
sum_by true z = clamp_sum z
sum_by false z = int_wrap w32 z

-- property 9 in column x of a row, from the row above and the row: west less north west plus north, clamped or reduced
-- to 32 bits
abbrev pub property_9_in : List ℤ → List ℤ → Bool → ℕ → ℤ
property_9_in above row clamped x = sum_by clamped (west_in above row x -ℤ north_west_in above row x +ℤ north_in above row x)
