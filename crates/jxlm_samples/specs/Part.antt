-- A part: channels whose samples are coded one after another (ISO/IEC 18181-1, Modular: channels, order of samples).
use Rattle.std.specs.Prelude.{◌≡◌, ℕ, zero, suc, ◌+◌, ◌-◌, ◌<◌, max, ℤ, List, [], ◌∷◌, ◌++◌, length, take, drop, map, filter, sum_by, slice_index_or, nat_lt, ◌==◌, ◌&&◌, Bool, if◌then◌else◌, Some}
use Rattle.std.specs.Ordering.{int_eq}
use Rattle.jxlm_base.specs.Grid.{Grid}
use Rattle.jxlm_transform.specs.Channels.{AreGridsOf, Channel, area}
use Rattle.jxlm_transform.specs.ChannelSteps.{table_channel}
use Rattle.jxlm_transform.specs.Params.{are_clamped}
use Rattle.jxlm_predictor.specs.Properties.{Surroundings, place_property, property}
use Rattle.jxlm_predictor.specs.Sums.{gradient_sum}
use Rattle.jxlm_tree.specs.SumTrees.{takes_sums_at}
use Rattle.jxlm_tree.specs.Tree.{Shape, walk}
use Rattle.jxlm_ma_tree.specs.declared.leaf.Leaf.{Leaf}
use Rattle.jxlm_weighted.specs.declared.weights.WpHeader.{WpHeader}

-- a part: its channels in order, the weights of its header, its tree, and its stream index
pub record Part : Type 0 where
  pub channels : List Channel
  pub weights : WpHeader
  pub tree : Shape Leaf
  pub stream : ℕ

-- channel i; where there is none, one without cells
abbrev pub channel : List Channel → ℕ → Channel
channel channels i = slice_index_or channels i (table_channel 0 0)

-- how many cells there are
abbrev pub cell_count : List Channel → ℕ
cell_count channels = sum_by area channels

-- how many cells are before channel i
abbrev pub cells_before : List Channel → ℕ → ℕ
cells_before channels i = cell_count (take i channels)

-- the channel that cell k is in: cells go channel by channel, and in each row by row
abbrev pub channel_of : List Channel → ℕ → ℕ
channel_of [] k = 0
channel_of (c ∷ channels) k = if nat_lt k (area c) then 0 else suc (channel_of channels (k - area c))

-- the maximum width, of channels without cells too
abbrev pub max_width : List Channel → ℕ
max_width [] = 0
max_width (c ∷ channels) = max c.width (max_width channels)

-- equal sizes and shifts
abbrev pub is_alike : Channel → Channel → Bool
is_alike a b = a.width == b.width && a.height == b.height && int_eq a.hshift b.hshift && int_eq a.vshift b.vshift

-- the numbers below i, from i - 1 down
abbrev pub downward : ℕ → List ℕ
downward zero = []
downward (suc i) = i ∷ downward i

-- the channels before channel i that are like it, the nearest first
abbrev pub earlier_alike : List Channel → ℕ → List ℕ
earlier_alike channels i = filter (λ e. is_alike (channel channels e) (channel channels i)) (downward i)

-- Where the next sample of the part is, after the samples before it, of all its channels.
module _ (channels : List Channel) (before : List ℤ) where
  -- its channel
  abbrev pub next_channel : ℕ
  next_channel = channel_of channels (length before)

  -- the samples of channel i
  abbrev pub samples_of : ℕ → List ℤ
  samples_of i = take (area (channel channels i)) (drop (cells_before channels i) before)

  -- the grid of channel i, where it is whole
  abbrev pub grid_of : ℕ → Grid ℤ
  grid_of i = record { width = (channel channels i).width; height = (channel channels i).height; cells = samples_of i }

-- what the properties of the next sample look at
abbrev pub surroundings : Part → List ℤ → Surroundings
surroundings part before =
    let i = next_channel part.channels before in
    record {
      weights = Some part.weights;
      width = (channel part.channels i).width;
      samples = samples_of part.channels before i;
      earlier = map (grid_of part.channels before) (earlier_alike part.channels i);
    }

-- property 9 of the samples of channel i is clamped: the channel is read so, and its tree asks for property 9 alone
abbrev pub clamps : Part → ℕ → Bool
clamps part i = are_clamped (channel part.channels i).gradient_sums && takes_sums_at i part.stream part.tree

-- property k of a cell, where property 9 is clamped or not; properties 0 and 1 are not of the cell, and are 0 here
abbrev pub place_by : Bool → Surroundings → ℕ → ℤ
place_by clamped s k = if clamped && k == 9 then gradient_sum s else place_property s k

-- the same as a walk sees it: 0 and 1 are the channel's index in its part and the stream index
abbrev pub property_by : Bool → ℕ → ℕ → Surroundings → ℕ → ℤ
property_by clamped channel stream s k = if clamped && k == 9 then gradient_sum s else property channel stream s k

-- the leaf of the next sample
abbrev pub next_leaf : Part → List ℤ → Leaf
next_leaf part before =
    let i = next_channel part.channels before in
    walk part.tree (property_by (clamps part i) i part.stream (surroundings part before))

-- the cells of grids, grid by grid and row by row
abbrev pub cells_of : List (Grid ℤ) → List ℤ
cells_of [] = []
cells_of (g ∷ grids) = g.cells ++ cells_of grids

-- grid i
abbrev pub grid : List (Grid ℤ) → ℕ → Grid ℤ
grid grids i = slice_index_or grids i (record { width = 0; height = 0; cells = [] })

-- After the first cells of some grids, up to cell j of channel i, the next sample sees the first j samples of its own
-- grid, and the earlier grids whole.
pub record SeesBefore (channels : List Channel) (grids : List (Grid ℤ)) (i j : ℕ) (before : List ℤ) : Type 0 where
  pub is_prefix : before ≡ take (cells_before channels i + j) (cells_of grids)
  pub stands : next_channel channels before ≡ i
  pub own : samples_of channels before i ≡ take j (grid grids i).cells
  pub earlier : (e : ℕ) → e < i → grid_of channels before e ≡ grid grids e

-- So it is at each cell of each channel.
abbrev pub EachSeesBefore : Type 0
EachSeesBefore = (channels : List Channel) (grids : List (Grid ℤ)) (i j : ℕ) → AreGridsOf channels grids →
    i < length channels → j < area (channel channels i) →
    SeesBefore channels grids i j (take (cells_before channels i + j) (cells_of grids))
