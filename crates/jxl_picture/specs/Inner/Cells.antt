-- The cell that is shown at a place, as the code finds it.
use Rattle.std.specs.Prelude.{ℕ, ◌==◌, ◌||◌, if◌then◌else◌}
use Rattle.jxl_picture.specs.Orientations.{place_counted, is_turned}

-- which coded column, of this number, is shown in column x of row y, and which row
abbrev pub column_of : ℕ → ℕ → ℕ → ℕ → ℕ
column_of o width x y = place_counted ((o == 2) || (o == 3) || (o == 7) || (o == 8)) width (if is_turned o then y else x)

abbrev pub row_of : ℕ → ℕ → ℕ → ℕ → ℕ
row_of o height x y = place_counted ((o == 3) || (o == 4) || (o == 6) || (o == 7)) height (if is_turned o then x else y)
