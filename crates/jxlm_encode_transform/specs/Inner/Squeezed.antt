-- How far a region is squeezed in place.
use Rattle.std.specs.Prelude.{◌≡◌, ℕ, ◌+◌, ◌*◌, ◌<◌, ◌≤◌, ℤ, List, [], ◌∷◌}
use Rattle.std.specs.Int.{Width}
use Rattle.jxlm_base.specs.Grid.{Grid, at}
use Rattle.jxlm_base.specs.Outside.{KeepsOutside, row_of}
use Rattle.jxlm_base.specs.Regions.{region, buffer_of, store_meanings}
use Rattle.jxlm_base.specs.declared.subgrid.Region.{Region}
use Rattle.jxlm_lanes.specs.Squeeze.{AreSamples, average_at, residual_at, squeezed}
use Rattle.jxlm_encode_transform.specs.Inner.Lines.{number_in}

-- n columns of a region, from column x on
abbrev pub strip_of : Region → ℕ → ℕ → Region
strip_of r x n = region r.buffer (r.x + x) r.y n r.height

module _ {S : Type 0} (f : S → ℤ) where
  -- the number in column x of row y of a region
  abbrev pub number_of : Region → List (Grid S) → ℕ → ℕ → ℤ
  number_of r store x y = at (buffer_of (store_meanings f store) r) (r.x + x) (r.y + y)

  -- the first rows of these lines, of this number of columns, have these numbers
  abbrev pub AreLines : ℕ → List S → (ℕ → ℕ → ℤ) → ℕ → Type 0
  AreLines columns lines value rows = (x y : ℕ) → x < columns → y < rows → number_in f lines (y * columns + x) ≡ value x y

  module _ (w : Width) (r : Region) where
    -- the averages and the residuals of a region's columns, by column and number
    abbrev pub average_of : List (Grid S) → ℕ → ℕ → ℤ
    average_of store x k = average_at w r.height (number_of r store x) k

    abbrev pub residual_of : List (Grid S) → ℕ → ℕ → ℤ
    residual_of store x k = residual_at w r.height (number_of r store x) k

    -- row y is squeezed, and nothing else changed
    pub record SqueezesRow (y : ℕ) (old new : List (Grid S)) : Type 0 where
      pub each : (x : ℕ) → x < r.width → number_of r new x y ≡ squeezed w r.width (λ i. number_of r old i y) x
      pub samples : AreSamples w r.width (λ i. number_of r old i y)
      pub keeps : KeepsOutside (row_of r y ∷ []) old new

    -- the rows above n are squeezed, and nothing else changed
    pub record SqueezedRows (n : ℕ) (old now : List (Grid S)) : Type 0 where
      pub each : (x y : ℕ) → x < r.width → y < n → number_of r now x y ≡ squeezed w r.width (λ i. number_of r old i y) x
      pub samples : (y : ℕ) → y < n → AreSamples w r.width (λ i. number_of r old i y)
      pub rest : (x y : ℕ) → x < r.width → n ≤ y → y < r.height → number_of r now x y ≡ number_of r old x y
      pub keeps : KeepsOutside (r ∷ []) old now

    -- the columns before n are squeezed, and nothing else changed
    pub record SqueezedColumns (n : ℕ) (old now : List (Grid S)) : Type 0 where
      pub each : (x y : ℕ) → x < n → y < r.height → number_of r now x y ≡ squeezed w r.height (number_of r old x) y
      pub samples : (x : ℕ) → x < n → AreSamples w r.height (number_of r old x)
      pub rest : (x y : ℕ) → n ≤ x → x < r.width → y < r.height → number_of r now x y ≡ number_of r old x y
      pub keeps : KeepsOutside (r ∷ []) old now
