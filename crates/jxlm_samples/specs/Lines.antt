-- One row of a channel: its region, and its cells that are away from all edges.
use Rattle.std.specs.Prelude.{ℕ, ◌+◌, ◌<◌, ◌≤◌}
use Rattle.jxlm_base.specs.declared.subgrid.Region.{Region}
use Rattle.jxlm_samples.specs.ChannelSettings.{region_at}
use Rattle.jxlm_samples.specs.Reading.{regions_of}
use Rattle.jxlm_samples.specs.declared.rows.Line.{Line}

-- the region of its channel
abbrev pub region_on : {D X : Type 0} → Line X D → Region
region_on l = region_at (regions_of l.coding.now) l.i

-- the cell in column x of row y is two or more columns and rows away from every edge but the last row
pub record IsAway (x y width : ℕ) : Type 0 where
  pub rows_above : 2 ≤ y
  pub columns_left : 2 ≤ x
  pub columns_right : x + 2 < width

-- so is each cell of row y from one column to before another
abbrev pub AreAway : ℕ → ℕ → ℕ → ℕ → Type 0
AreAway from to y width = (x : ℕ) → from ≤ x → x < to → IsAway x y width
