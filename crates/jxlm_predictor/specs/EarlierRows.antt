-- Rows of earlier channels.
use Rattle.std.specs.Prelude.{◌≡◌, ℕ, ◌+◌, ◌<◌, ◌≤◌, List, length, get_or, take, slice_get}
use Rattle.jxlm_base.specs.Grid.{Grid}
use Rattle.jxlm_base.specs.Regions.{region_cell}
use Rattle.jxlm_base.specs.declared.subgrid.Region.{Region}
use Rattle.jxlm_predictor.specs.Standing.{earlier_held, row_of}
use Rattle.jxlm_predictor.specs.declared.earlier.EarlierRow.{EarlierRow}
use Rattle.jxlm_predictor.specs.declared.earlier.EarlierRows.{EarlierRows}
use Rattle.jxlm_predictor.specs.declared.state.PredictorState.{PredictorState}

module _ {S : Type 0} where
  -- row y of the region, and below the first row the row above it
  pub record IsRowOf (r : Region) (store : List (Grid S)) (y : ℕ) (e : EarlierRow S) : Type 0 where
    pub below : y < r.height
    pub row_long : length e.row.now ≡ r.width
    pub above_long : length e.above.now ≡ r.width
    pub row_is : (x : ℕ) → x < r.width → region_cell store r x y ≡ slice_get e.row.now x
    pub above_is : (q x : ℕ) → y ≡ q + 1 → x < r.width → region_cell store r x q ≡ slice_get e.above.now x

  -- row y, and the row above it, of each of the first of these regions
  pub record AreRowsOf (earlier : List Region) (store : List (Grid S)) (y : ℕ) (rows : List (EarlierRow S)) : Type 0
    where
      pub few : length rows ≤ length earlier
      pub each : (k : ℕ) (e : EarlierRow S) (r : Region) → k < length rows →
          IsRowOf (get_or earlier k r) store y (get_or rows k e)

  -- the rows of the nearest earlier channels in which the state's cell is, and those above
  abbrev pub HoldRows : PredictorState S → List (Grid S) → List (EarlierRow S) → Type 0
  HoldRows state store rows = AreRowsOf (earlier_held state) store (row_of state) rows

  -- the rows that are held
  abbrev pub held_rows : EarlierRows S → List (EarlierRow S)
  held_rows e = take e.count e.rows
