-- The neighbours of a cell in column x and row y (ISO/IEC 18181-1, Modular: neighbouring samples).
use Rattle.std.specs.Prelude.{ℕ, zero, suc, ◌+◌, ◌*◌, ◌/◌, ◌%◌, ℤ, pos, List, length, slice_index_or, nat_lt, if◌then◌else◌}

-- the sample in column x of row y; samples are in row order
abbrev pub at : List ℤ → ℕ → ℕ → ℕ → ℤ
at samples width x y = slice_index_or samples (y * width + x) (pos 0)

-- left; in column 0 above; at the start 0
abbrev pub west : List ℤ → ℕ → ℕ → ℕ → ℤ
west samples width zero zero = pos 0
west samples width zero (suc y) = at samples width 0 y
west samples width (suc x) y = at samples width x y

-- above; in row 0 as west
abbrev pub north : List ℤ → ℕ → ℕ → ℕ → ℤ
north samples width x zero = west samples width x zero
north samples width x (suc y) = at samples width x y

-- above left; in row 0 and in column 0 as west
abbrev pub north_west : List ℤ → ℕ → ℕ → ℕ → ℤ
north_west samples width zero y = west samples width zero y
north_west samples width (suc x) zero = west samples width (suc x) zero
north_west samples width (suc x) (suc y) = at samples width x y

-- above right; in row 0 and in the last column as north
abbrev pub north_east : List ℤ → ℕ → ℕ → ℕ → ℤ
north_east samples width x zero = north samples width x zero
north_east samples width x (suc y) = if nat_lt (x + 1) width then at samples width (x + 1) y else north samples width x (suc y)

-- above and two to the right; in row 0 and in the last two columns as north east
abbrev pub north_east_east : List ℤ → ℕ → ℕ → ℕ → ℤ
north_east_east samples width x zero = north_east samples width x zero
north_east_east samples width x (suc y) = if nat_lt (x + 2) width then at samples width (x + 2) y else north_east samples width x (suc y)

-- two above; in rows 0 and 1 as north
abbrev pub north_north : List ℤ → ℕ → ℕ → ℕ → ℤ
north_north samples width x zero = north samples width x zero
north_north samples width x (suc zero) = north samples width x 1
north_north samples width x (suc (suc y)) = at samples width x y

-- two to the left; in columns 0 and 1 as west
abbrev pub west_west : List ℤ → ℕ → ℕ → ℕ → ℤ
west_west samples width zero y = west samples width zero y
west_west samples width (suc zero) y = west samples width 1 y
west_west samples width (suc (suc x)) y = at samples width x y

-- west, north, north west, north east, north east east, north north, west west
pub record Neighbours : Type 0 where
  pub w : ℤ
  pub n : ℤ
  pub nw : ℤ
  pub ne : ℤ
  pub nee : ℤ
  pub nn : ℤ
  pub ww : ℤ

-- the neighbours at (x, y)
abbrev pub neighbours_at : List ℤ → ℕ → ℕ → ℕ → Neighbours
neighbours_at samples width x y = record {
  w = west samples width x y;
  n = north samples width x y;
  nw = north_west samples width x y;
  ne = north_east samples width x y;
  nee = north_east_east samples width x y;
  nn = north_north samples width x y;
  ww = west_west samples width x y;
}

-- the column and the row of the cell after the samples
abbrev pub column : List ℤ → ℕ → ℕ
column samples width = length samples % width

abbrev pub row : List ℤ → ℕ → ℕ
row samples width = length samples / width

-- the neighbours of the cell after the samples
abbrev pub neighbours : List ℤ → ℕ → Neighbours
neighbours samples width = neighbours_at samples width (column samples width) (row samples width)
