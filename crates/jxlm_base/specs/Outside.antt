-- What a store keeps outside some of its regions.
use Rattle.std.specs.Prelude.{◌≡◌, ℕ, ◌+◌, ◌<◌, List, [], ◌∷◌, length, slice_get, get_or}
use Rattle.std.specs.List.{All}
use Rattle.jxlm_base.specs.Grid.{Grid, grid, cell, IsFull}
use Rattle.jxlm_base.specs.Regions.{region, region_cell, HasCell}
use Rattle.jxlm_base.specs.declared.subgrid.Region.{Region}

-- row y of a region, which is a region too
abbrev pub row_of : Region → ℕ → Region
row_of r y = region r.buffer r.x (r.y + y) r.width 1

module _ {S : Type 0} where
  -- buffer b of a store; a grid of no cells where there is none
  abbrev pub buffer_at : List (Grid S) → ℕ → Grid S
  buffer_at store b = get_or store b (grid 0 0 [])

  -- the store keeps its grids' sizes, and its cells outside the regions
  pub record KeepsOutside (regions : List Region) (old new : List (Grid S)) : Type 0 where
    pub count : length new ≡ length old
    pub width : (b : ℕ) → (buffer_at new b).width ≡ (buffer_at old b).width
    pub height : (b : ℕ) → (buffer_at new b).height ≡ (buffer_at old b).height
    pub full : (b : ℕ) → IsFull (buffer_at old b) → IsFull (buffer_at new b)
    pub cells : (b x y : ℕ) → x < (buffer_at old b).width → y < (buffer_at old b).height → All (λ r. HasCell r b x y → ⊥) regions → cell (buffer_at new b) x y ≡ cell (buffer_at old b) x y

  -- the new store has vs in row y of the region, and else what the old one has
  pub record SetsRow (r : Region) (y : ℕ) (vs : List S) (old new : List (Grid S)) : Type 0 where
    pub cells : (x : ℕ) → x < r.width → region_cell new r x y ≡ slice_get vs x
    pub keeps : KeepsOutside (row_of r y ∷ []) old new
