-- How far the inverse of a palette has come: what its loops over channels, rows and columns keep.
use Rattle.std.specs.Prelude.{◌≡◌, ℕ, ◌+◌, ◌<◌, ◌≤◌, ◌⊎◌, List, [], ◌∷◌, ◌++◌, length, map, take, get_or, ℤ, pos, negsuc, unsigned_abs}
use Rattle.std.specs.Int.{Width}
use Rattle.jxlm_base.specs.Grid.{Grid, at}
use Rattle.jxlm_base.specs.Regions.{Lies, AreApart, region, grid_of, store_meanings, with_region_cell}
use Rattle.jxlm_base.specs.declared.subgrid.Region.{Region}
use Rattle.jxlm_base.specs.Outside.{KeepsOutside}
use Rattle.jxlm_predictor.specs.Standing.{StandsAt, setting}
use Rattle.jxlm_predictor.specs.declared.state.PredictorState.{PredictorState}
use Rattle.jxlm_transform.specs.declared.transform.Palette.{Palette}
use Rattle.jxlm_inverse.specs.declared.palette.FinishedChannel.{FinishedChannel}
use Rattle.jxlm_inverse.specs.Palette.{finished_channel, finished_sample, finished_samples}

-- an index of the table that is no delta
abbrev pub IsSimpleIndex : Palette → ℤ → Type 0
IsSimpleIndex t (pos i) = (t.nb_deltas ≤ i) × (i < t.nb_colours)
IsSimpleIndex t (negsuc k) = ⊥

-- so are the first n of some numbers
abbrev pub AreSimple : Palette → (ℕ → ℤ) → ℕ → Type 0
AreSimple t numbers n = (x : ℕ) → x < n → IsSimpleIndex t (numbers x)

-- so are the indices of a row, and of the whole grid
abbrev pub IsSimpleRow : Palette → Grid ℤ → ℕ → Type 0
IsSimpleRow t index y = (x : ℕ) → x < index.width → IsSimpleIndex t (at index x y)

abbrev pub IsSimple : Palette → Grid ℤ → Type 0
IsSimple t index = (y : ℕ) → y < index.height → IsSimpleRow t index y

-- the number that element i of a row stands for, and 0 where there is none
abbrev pub number_of : {S : Type 0} → (S → ℤ) → List S → ℕ → ℤ
number_of f xs i = get_or (map f xs) i (pos 0)

-- n columns of a region, from column x on
abbrev pub columns_of : Region → ℕ → ℕ → Region
columns_of r x n = region r.buffer (r.x + x) r.y n r.height

-- The channel's regions lie in the store. The samples take none of the table's cells; of the indices' cells they take
-- all, each its own, or none.
pub record ChannelLies {S : Type 0} (t : Palette) (p : FinishedChannel) (store : List (Grid S)) : Type 0 where
  pub table_lies : Lies p.table store
  pub index_lies : Lies p.index store
  pub target_lies : Lies p.target store
  pub columns : p.table.width ≡ t.nb_colours
  pub row : p.number < p.table.height
  pub same_width : p.target.width ≡ p.index.width
  pub same_height : p.target.height ≡ p.index.height
  pub table_apart : AreApart p.target p.table
  pub index_apart : (p.index ≡ p.target) ⊎ AreApart p.target p.index

-- this number was written in column x of row y of the samples, and nothing else changed
pub record SetsSample {S : Type 0} (to_int : S → ℤ) (p : FinishedChannel) (x y : ℕ) (z : ℤ) (old new : List (Grid S)) : Type 0 where
  pub sample : S
  pub sample_is : to_int sample ≡ z
  pub written : new ≡ with_region_cell old p.target x y sample

-- the table is as it was, and so are the indices from cell k on
pub record StillToCome (p : FinishedChannel) (k : ℕ) (table index : Grid ℤ) (ints : List (Grid ℤ)) : Type 0 where
  pub table_is : grid_of ints p.table ≡ table
  pub indices : (i : ℕ) → k ≤ i → get_or (grid_of ints p.index).cells i (pos 0) ≡ get_or index.cells i (pos 0)

-- the channel's grids in a store
abbrev pub table_in : FinishedChannel → List (Grid ℤ) → Grid ℤ
table_in p ints = grid_of ints p.table

abbrev pub index_in : FinishedChannel → List (Grid ℤ) → Grid ℤ
index_in p ints = grid_of ints p.index

-- the same of two stores
abbrev pub kept : FinishedChannel → ℕ → List (Grid ℤ) → List (Grid ℤ) → Type 0
kept p k old new = StillToCome p k (table_in p old) (index_in p old) new

module _ (w : Width) (depth : ℕ) (t : Palette) (p : FinishedChannel) where
  -- the first k samples are finished
  pub record Filled (table index : Grid ℤ) (k : ℕ) (ints : List (Grid ℤ)) : Type 0 where
    pub samples : take k (grid_of ints p.target).cells ≡ finished_samples w depth t table index p.number k
    pub later_cells : StillToCome p k table index ints
    pub as_wide : index.width ≡ p.index.width

  -- Whatever the table and the indices were: where the first `from` samples were finished, the first `to` are now.
  abbrev pub FillsOn : ℕ → ℕ → List (Grid ℤ) → List (Grid ℤ) → Type 0
  FillsOn from to old new = (table index : Grid ℤ) → Filled table index from old → Filled table index to new

  -- the same, with a state that is at the cell after the samples
  abbrev pub FillsOnBy : {S : Type 0} → ℕ → ℕ → List (Grid ℤ) → PredictorState S → List (Grid ℤ) → PredictorState S → Type 0
  FillsOnBy from to old state new state' = (table index : Grid ℤ) → Filled table index from old →
      StandsAt state (setting p.index.width t.wp_header []) (finished_samples w depth t table index p.number from) →
      Filled table index to new × StandsAt state' (setting p.index.width t.wp_header []) (finished_samples w depth t table index p.number to)

  -- the finished sample in column x of row y, after these samples of the channel
  abbrev pub sample_after : List (Grid ℤ) → ℕ → ℕ → List ℤ → ℤ
  sample_after ints x y before = finished_sample w depth t (table_in p ints) (at (index_in p ints) x y) p.number before p.index.width

  module _ {S : Type 0} (to_int : S → ℤ) (x y : ℕ) where
    -- it was written in column x of row y, after the samples that the state stands after, and nothing else changed
    abbrev pub SetsNext : PredictorState S → List (Grid S) → List (Grid S) → Type 0
    SetsNext state old new = (before : List ℤ) → StandsAt state (setting p.index.width t.wp_header []) before →
        SetsSample to_int p x y (sample_after (store_meanings to_int old) x y before) old new

    -- the state stands after it too
    abbrev pub StandsNext : List (Grid S) → PredictorState S → PredictorState S → Type 0
    StandsNext store old new = (before : List ℤ) → StandsAt old (setting p.index.width t.wp_header []) before →
        StandsAt new (setting p.index.width t.wp_header []) (before ++ sample_after (store_meanings to_int store) x y before ∷ [])

-- the sample in the table that an index names in a channel
abbrev pub looked_up : Grid ℤ → ℤ → ℕ → ℤ
looked_up table i c = at table (unsigned_abs i) c

-- the state is at the cell after k samples of a channel of this width, with the palette's weights
pub record StandsBefore {S : Type 0} (t : Palette) (width k : ℕ) (state : PredictorState S) : Type 0 where
  pub before : List ℤ
  pub count : length before ≡ k
  pub stands : StandsAt state (setting width t.wp_header []) before

-- the channels from number `left` on are finished, and what the others need is as it was
pub record ChannelsDone {S : Type 0} (to_int : S → ℤ) (w : Width) (depth : ℕ) (t : Palette) (table index : Region) (finished : List Region) (left : ℕ) (old new : List (Grid S)) : Type 0 where
  pub within : left ≤ length finished
  pub keeps : KeepsOutside finished old new
  pub table_is : grid_of (store_meanings to_int new) table ≡ grid_of (store_meanings to_int old) table
  pub index_is : 0 < left → grid_of (store_meanings to_int new) index ≡ grid_of (store_meanings to_int old) index
  pub done : (c : ℕ) (d : Region) → left ≤ c → c < length finished →
      grid_of (store_meanings to_int new) (get_or finished c d) ≡ finished_channel w depth t (grid_of (store_meanings to_int old) table) (grid_of (store_meanings to_int old) index) c

-- channel m
abbrev pub channel_at : Region → Region → List Region → ℕ → FinishedChannel
channel_at table index finished m = record { table = table; index = index; target = get_or finished m index; number = m }
