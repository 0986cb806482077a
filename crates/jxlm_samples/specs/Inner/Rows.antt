-- Rows of cells that are read one after another.
use Rattle.std.specs.Prelude.{◌≡◌, ◌≢◌, ℕ, ◌+◌, ◌*◌, ◌<◌, ◌≤◌, ◌⊎◌, ℤ, pos, Bool, List, ◌++◌, get_or, length, map, take, slice_get, slice_index, slice_set, Some, Result, Ok, Err}
use Rattle.std.specs.Int.{Width}
use Rattle.jxlm_bits.specs.Bits.{bytes_of, position_of}
use Rattle.jxlm_bits.specs.Decoding.{Meaning}
use Rattle.jxlm_base.specs.Grid.{Grid}
use Rattle.jxlm_base.specs.Outside.{SetsRow}
use Rattle.jxlm_base.specs.Regions.{AllLie, LieApart, grid_of, grids_in, region, store_meanings}
use Rattle.jxlm_bits.specs.declared.bits.Bitstream.{Bitstream}
use Rattle.jxlm_bits.specs.declared.decoder.DecoderError.{DecoderError}
use Rattle.jxlm_bits.specs.declared.decoder.DecoderError.TheVariants.{OutOfMemory}
use Rattle.jxlm_base.specs.declared.subgrid.Region.{Region}
use Rattle.jxlm_tree.specs.Paths.{Gives, steps_on}
use Rattle.jxlm_ma_tree.specs.declared.leaf.Leaf.{Leaf}
use Rattle.jxlm_tree.specs.declared.paths.Path.{Path}
use Rattle.jxlm_tree.specs.declared.paths.Path.TheVariants as path
use Rattle.jxlm_predictor.specs.EarlierRows.{AreRowsOf}
use Rattle.jxlm_predictor.specs.Standing.{StandsAt}
use Rattle.jxlm_predictor.specs.declared.earlier.EarlierRow.{EarlierRow}
use Rattle.jxlm_predictor.specs.declared.state.PredictorState.{PredictorState}
use Rattle.jxlm_samples.specs.CellLeaves.{steps_walked}
use Rattle.jxlm_samples.specs.Inner.Cells.{source_of}
use Rattle.jxlm_samples.specs.ChannelSettings.{region_at, setting_of}
use Rattle.jxlm_samples.specs.Coded.{part_rule, sample_of}
use Rattle.jxlm_samples.specs.Lines.{region_on}
use Rattle.jxlm_samples.specs.Part.{Part, clamps}
use Rattle.jxlm_samples.specs.Reading.{FindsClusters, HasRoom, IsCodingOf, cost_of, part_of, regions_of, tree_of}
use Rattle.jxlm_samples.specs.Rule.{Rule, CodedPrefix}
use Rattle.jxlm_samples.specs.Inner.Paths.{Allows, HasSets, gradient_rule, steps_by}
use Rattle.jxlm_samples.specs.Inner.Progress.{preceding_cells}
use Rattle.jxlm_samples.specs.declared.source.Source.{Source}
use Rattle.jxlm_samples.specs.declared.coding.ChannelTree.{ChannelTree}
use Rattle.jxlm_samples.specs.declared.coding.PartCoding.{PartCoding}
use Rattle.jxlm_samples.specs.declared.gradient.Leaves.{Leaves}
use Rattle.jxlm_samples.specs.declared.rows.Line.{Line}
use Rattle.jxlm_samples.specs.declared.rows.RowError.{RowError}
use Rattle.jxlm_samples.specs.declared.source.Walk.{Walk}

-- a rule, for the cells that come after these
abbrev pub rule_after : {S : Type 0} → Rule S → List ℤ → Rule S
rule_after rule before = record {
  read = λ row s p. rule.read (before ++ row) s p;
  value = λ row token. rule.value (before ++ row) token;
}

-- ---- cells and rows by a rule, each in at most `cost` steps

module _ {S : Type 0} (d : Meaning S) (cost : ℕ) (rule : Rule S) (row : List ℤ) where
  -- the cells before column x of the row were read
  pub record ReadsCells (x : ℕ) (old new : Source S) : Type 0 where
    pub reads : CodedPrefix rule row old.decoder (position_of old.bits) x new.decoder (position_of new.bits)
    pub clusters : d.cluster_map new.decoder ≡ d.cluster_map old.decoder
    pub bytes : bytes_of new.bits ≡ bytes_of old.bits
    pub work : new.steps ≤ old.steps + x * cost
    pub more : old.steps ≤ new.steps

  -- the cells of the row before one were read, and the read of that one returned an error
  pub record FailsRow (old new : Source S) (r : RowError) : Type 0 where
    pub state : S
    pub inside : r.column < length row
    pub reads : CodedPrefix rule row old.decoder (position_of old.bits) r.column state (position_of new.bits)
    pub error : rule.read (take r.column row) state (position_of new.bits) ≡ Err r.error
    pub memory : r.error ≢ OutOfMemory
    pub bytes : bytes_of new.bits ≡ bytes_of old.bits
    pub work : new.steps ≤ old.steps + (r.column + 1) * cost
    pub more : old.steps ≤ new.steps

  -- what the read of the whole row returned
  abbrev pub ReadsRow : Result (Unit {0}) RowError → Source S → Source S → Type 0
  ReadsRow (Ok u) old new = ReadsCells (length row) old new
  ReadsRow (Err r) old new = FailsRow old new r

  -- cell x was read, and it is in the row now
  pub record ReadsCell (x : ℕ) (old new : Source S) (now : List ℤ) : Type 0 where
    pub token : ℕ
    pub read : rule.read (take x row) old.decoder (position_of old.bits)
        ≡ Ok (record { value = token; state = new.decoder; position = position_of new.bits })
    pub written : now ≡ slice_set row x (rule.value (take x row) token)
    pub clusters : d.cluster_map new.decoder ≡ d.cluster_map old.decoder
    pub bytes : bytes_of new.bits ≡ bytes_of old.bits
    pub work : new.steps ≤ old.steps + cost
    pub more : old.steps ≤ new.steps

  -- the read of cell x returned the error e, and nothing else changed
  pub record FailsCell (x : ℕ) (old new : Source S) (now : List ℤ) (e : DecoderError) : Type 0 where
    pub error : rule.read (take x row) old.decoder (position_of old.bits) ≡ Err e
    pub row_is : now ≡ row
    pub place_is : position_of new.bits ≡ position_of old.bits
    pub memory : e ≢ OutOfMemory
    pub bytes : bytes_of new.bits ≡ bytes_of old.bits
    pub work : new.steps ≤ old.steps + cost
    pub more : old.steps ≤ new.steps

-- the cells from column x on are what a rule says of the first n of these tokens, and those before are as they were
pub record MakesCells (value : List ℤ → ℕ → ℤ) (row now : List ℤ) (x : ℕ) (tokens : List ℕ) (n : ℕ) : Type 0 where
  pub before : take x now ≡ take x row
  pub cells : (k : ℕ) → k < n → slice_get now (x + k) ≡ Some (value (take (x + k) now) (slice_index tokens k))

-- What the read of n cells from column x on returned, and what it left: wherever those before were read from.
module _ {S : Type 0} (d : Meaning S) (rule : List ℕ → Rule S) (x n : ℕ) (row now : List ℤ) (old new : Source S) where
  abbrev pub StretchGives : Result (Unit {0}) RowError → Type 0
  StretchGives (Ok u) = (start : Source S) → ReadsCells d 0 (rule (bytes_of start.bits)) row x start old →
      ReadsCells d 0 (rule (bytes_of start.bits)) now (x + n) start new
  StretchGives (Err r) = (start : Source S) → ReadsCells d 0 (rule (bytes_of start.bits)) row x start old →
      FailsRow d 0 (rule (bytes_of start.bits)) now start new r

-- what the read of a row below another returned, and what it left
abbrev pub GradientGives : {D : Type 0} → Meaning D → Width → Bool → Leaves → ℕ → List ℤ → List ℤ → Source D → Source D →
    Result (Unit {0}) RowError → Type 0
GradientGives d w clamped leaves widest above row old new result =
    ReadsRow d (steps_by leaves) (gradient_rule d w clamped (bytes_of old.bits) widest leaves above) row result old new

-- two rules read the same for each cell of a row of n cells
abbrev pub AreAlike : {S : Type 0} → Rule S → Rule S → ℕ → Type 0
AreAlike {S} a b n = (row : List ℤ) → length row < n →
    ((s : S) (p : ℕ) → a.read row s p ≡ b.read row s p) × ((token : ℕ) → a.value row token ≡ b.value row token)

-- ---- rows that are written

-- each cell of the path's rows is this sample: its one leaf predicts by 0, and has only one token
pub record IsOnlySample {S X : Type 0} (d : Meaning S) (decoder : S) (p : Path) (w : Width) (to_int : X → ℤ) (v : X) :
    Type 0 where
  pub leaf : Leaf
  pub token : ℕ
  pub path_is : (p ≡ path.Constant leaf) ⊎ (p ≡ path.Zero leaf)
  pub single : d.single_token decoder leaf.cluster ≡ Some token
  pub is : to_int v ≡ sample_of w leaf (pos 0) token

-- the first n columns of a region
abbrev pub first_columns : Region → ℕ → Region
first_columns r n = region r.buffer r.x r.y n r.height

-- A row that was read is in row y of a region now: whole, or the cells before the one whose read returned an error; and
-- what its read returned is returned.
abbrev pub SetsRead : {X : Type 0} → Region → ℕ → List X → Result (Unit {0}) RowError → List (Grid X) → List (Grid X) →
    Result (Unit {0}) DecoderError → Type 0
SetsRead r y row (Ok u) old new result = SetsRow r y row old new × (result ≡ Ok u)
SetsRead r y row (Err e) old new result =
    SetsRow (first_columns r e.column) y (take e.column row) old new × (result ≡ Err e.error)

-- ---- rows of a part

-- What holds while a part is decoded: the regions lie in the store, and no two of them share a cell.
pub record IsDecodingPart {D X : Type 0} (c : PartCoding D) (store : List (Grid X)) : Type 0 where
  pub coding : IsCodingOf c
  pub lie : AllLie (regions_of c) store
  pub apart : LieApart (regions_of c)

-- the same for its channel i, which has columns
pub record IsDecoding {D X : Type 0} (c : PartCoding D) (i : ℕ) (store : List (Grid X)) : Type 0 where
  pub part : IsDecodingPart c store
  pub channel : i < length (regions_of c)
  pub columns : 0 < (region_at (regions_of c) i).width

-- how the cells of row y of channel i are read
abbrev pub row_rule : {S : Type 0} → Meaning S → Width → Part → List ℕ → List Region → List (Grid ℤ) → ℕ → ℕ → Rule S
row_rule d w part bytes regions ints i y =
    rule_after (part_rule d w part bytes) (preceding_cells part (grids_in regions ints) i 0 y)

-- the state is at the cell after the rows above row y of channel i and these cells of that row
abbrev pub StandsInRow : {D X : Type 0} → PartCoding D → (X → ℤ) → List (Grid X) → ℕ → ℕ → List ℤ → PredictorState X → Type 0
StandsInRow c to_int store i y row state =
    let r : Region = region_at (regions_of c) i in
    StandsAt state (setting_of c i) (take (y * r.width) (grid_of (store_meanings to_int store) r).cells ++ row)

-- a walk, by its parts
abbrev pub walk_of : {D X : Type 0} → Source D → Bitstream → PredictorState X → Walk X D
walk_of source bits state = record { source = source_of source bits; state = state }

module _ {D X : Type 0} (l : Line X D) where
  -- the path of its channel gives what the tree gives
  pub record IsLine : Type 0 where
    pub here : IsDecoding l.coding.now l.i l.store.now
    pub below : l.y < (region_on l).height
    pub gives : Gives (tree_of l.coding.now l.i) l.path
    pub allows : Allows l.path
    pub steps : steps_on l.path l.coding.now.config.now.tree ≤ cost_of l.coding.now
    pub clamped : l.clamped ≡ clamps (part_of l.coding.now) l.i

  -- its cells are read one by one, with these rows of earlier channels at hand
  pub record IsWalked (rows : List (EarlierRow X)) : Type 0 where
    pub line : IsLine
    pub steps : steps_walked l.path l.coding.now.config.now.tree ≤ cost_of l.coding.now
    pub are_rows : AreRowsOf (setting_of l.coding.now l.i).earlier l.store.now l.y rows

  -- its cells are read by the sets of leaves of the channel's tree
  abbrev pub HasSetsOn : Type 0
  HasSetsOn = (other : ChannelTree) → HasSets (get_or l.coding.now.flats.now l.i other) l.clamped l.path

  module _ (d : Meaning D) (to_int : X → ℤ) (w : Width) where
    -- how its cells are read
    abbrev pub rule_on : List ℕ → Rule D
    rule_on bytes = row_rule d w (part_of l.coding.now) bytes (regions_of l.coding.now) (store_meanings to_int l.store.now) l.i l.y

    -- what the read of the row returned, and what it left
    abbrev pub RowGives : List X → Source D → Source D → Result (Unit {0}) RowError → Type 0
    RowGives row old new result =
        ReadsRow d (cost_of l.coding.now) (rule_on (bytes_of old.bits)) (map to_int row) result old new

    -- the walk is before cell x of the row
    pub record IsAtCell (x : ℕ) (row : List X) (walk : Walk X D) : Type 0 where
      pub long : length row ≡ (region_on l).width
      pub stands : StandsInRow l.coding.now to_int l.store.now l.i l.y (take x (map to_int row)) walk.state
      pub roomy : HasRoom l.coding.now walk.state
      pub clusters : FindsClusters l.coding.now (d.cluster_map walk.source.decoder)

    -- what the read of cell x returned, and what it left
    abbrev pub CellGives : ℕ → List X → List X → Walk X D → Walk X D → Result (Unit {0}) DecoderError → Type 0
    CellGives x row now old new (Ok u) =
        ReadsCell d (cost_of l.coding.now) (rule_on (bytes_of old.source.bits)) (map to_int row) x old.source new.source (map to_int now)
        × IsAtCell (x + 1) now new
    CellGives x row now old new (Err e) =
        FailsCell d (cost_of l.coding.now) (rule_on (bytes_of old.source.bits)) (map to_int row) x old.source new.source (map to_int now) e

    -- What the read of the cells from one column to before another returned, and what it left: wherever those before the
    -- first one were read from.
    abbrev pub CellsGive : ℕ → ℕ → List X → List X → Walk X D → Walk X D → Result (Unit {0}) RowError → Type 0
    CellsGive from to row now old new (Ok u) =
        ((start : Source D) → ReadsCells d (cost_of l.coding.now) (rule_on (bytes_of start.bits)) (map to_int row) from start old.source →
        ReadsCells d (cost_of l.coding.now) (rule_on (bytes_of start.bits)) (map to_int now) to start new.source)
        × IsAtCell to now new
    CellsGive from to row now old new (Err r) =
        (start : Source D) → ReadsCells d (cost_of l.coding.now) (rule_on (bytes_of start.bits)) (map to_int row) from start old.source →
        FailsRow d (cost_of l.coding.now) (rule_on (bytes_of start.bits)) (map to_int now) start new.source r
