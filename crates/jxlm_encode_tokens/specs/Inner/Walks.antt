-- What the loops over channels, rows and cells keep.
use Rattle.std.specs.Prelude.{◌≡◌, ◌⊎◌, ℕ, ◌+◌, ◌*◌, ◌<◌, ℤ, pos, Bool, true, List, length, get_or, slice_get}
use Rattle.std.specs.Int.{Width}
use Rattle.jxlm_base.specs.Grid.{Grid}
use Rattle.jxlm_base.specs.Regions.{AllLie, grids_in, region_cell, store_meanings}
use Rattle.jxlm_tree.specs.FlatTree.{FlatTree, leaf_reached}
use Rattle.jxlm_tree.specs.Paths.{Gives, IsGradientTable}
use Rattle.jxlm_tree.specs.ShortTrees.{Fits}
use Rattle.jxlm_tree.specs.Tree.{AllLeaves}
use Rattle.jxlm_ma_tree.specs.declared.leaf.Leaf.{Leaf}
use Rattle.jxlm_predictor.specs.EarlierRows.{AreRowsOf}
use Rattle.jxlm_predictor.specs.Holding.{surroundings}
use Rattle.jxlm_predictor.specs.Predictions.{prediction}
use Rattle.jxlm_predictor.specs.Standing.{Setting}
use Rattle.jxlm_predictor.specs.declared.earlier.EarlierRow.{EarlierRow}
use Rattle.jxlm_predictor.specs.declared.predictor.Predictor.TheVariants as predictor
use Rattle.jxlm_predictor.specs.declared.state.PredictorState.{PredictorState}
use Rattle.jxlm_samples.specs.ChannelSettings.{StandsAfter, region_at, setting_of}
use Rattle.jxlm_samples.specs.Lines.{region_on}
use Rattle.jxlm_samples.specs.Part.{cells_before, cells_of, clamps, place_by}
use Rattle.jxlm_samples.specs.Reading.{IsCodingOf, part_of, regions_of, tree_of}
use Rattle.jxlm_samples.specs.declared.coding.PartCoding.{PartCoding}
use Rattle.jxlm_samples.specs.declared.rows.Line.{Line}
use Rattle.jxlm_encode_tokens.specs.Tokens.{MultipliesByOne}
use Rattle.jxlm_encode_tokens.specs.declared.part.LoneLeaves.{LoneLeaves}
use Rattle.jxlm_encode_tokens.specs.declared.part.LoneLeaves.TheVariants.{One, Table}
use Rattle.jxlm_encode_tokens.specs.Inner.Forms.{Form, IsCellToken, IsLeafToken}

-- the token of a sample that comes after these of a channel, where a state was set so, the walk is of this tree, and
-- property 9 is clamped or not
abbrev pub IsNextToken : {T : Type 0} → Form T → Bool → FlatTree → Width → List (Grid ℤ) → Setting → List ℤ → ℤ → T → Type 0
IsNextToken form clamped flat w store s samples sample token =
    let l : Leaf = leaf_reached flat (place_by clamped (surroundings s store samples)) in
    IsLeafToken form w l (prediction s.weights samples s.width l.predictor) sample token

-- What holds while the tokens of a part are made: its regions lie in the store, and its leaves multiply by 1.
pub record IsWalked {D X : Type 0} (c : PartCoding D) (store : List (Grid X)) : Type 0 where
  pub coding : IsCodingOf c
  pub lie : AllLie (regions_of c) store
  pub ones : AllLeaves MultipliesByOne c.config.now.tree

-- the same in channel i
pub record IsInChannel {D X : Type 0} (c : PartCoding D) (store : List (Grid X)) (i : ℕ) : Type 0 where
  pub walked : IsWalked c store
  pub channel : i < length (regions_of c)

-- these are the cells of row y of channel i
pub record HasRow {D X : Type 0} (c : PartCoding D) (store : List (Grid X)) (i y : ℕ) (row : List X) : Type 0 where
  pub below : y < (region_at (regions_of c) i).height
  pub long : length row ≡ (region_at (regions_of c) i).width
  pub cells : (x : ℕ) → x < (region_at (regions_of c) i).width → region_cell store (region_at (regions_of c) i) x y ≡ slice_get row x

module _ {D X : Type 0} (c : PartCoding D) (w : Width) (to_int : X → ℤ) (store : List (Grid X)) where
  -- the cells of the part
  abbrev pub all_cells : List ℤ
  all_cells = cells_of (grids_in (regions_of c) (store_meanings to_int store))

  module _ {T : Type 0} (form : Form T) where
    -- this list begins with the tokens of the first n cells of row y of channel i
    abbrev pub AreRowTokens : ℕ → ℕ → ℕ → List T → Type 0
    AreRowTokens i y n out = (x : ℕ) (d : T) → x < n → IsCellToken form w (part_of c) all_cells
        (cells_before (part_of c).channels i + (y * (region_at (regions_of c) i).width + x)) (get_or out x d)

    -- these are the tokens of the first k cells
    abbrev pub AreFirstTokens : ℕ → List T → Type 0
    AreFirstTokens k tokens = (length tokens ≡ k) × ((n : ℕ) (d : T) → n < k → IsCellToken form w (part_of c) all_cells n (get_or tokens n d))

-- Wherever the tree leads at a cell, the leaf there is as this one, but for its cluster where clusters are not kept. It
-- predicts by 0 or by the clamped gradient, and multiplies by 1.
pub record IsLoneLeaf (clustered : Bool) (t : FlatTree) (l : Leaf) : Type 0 where
  pub predictors : (f : ℕ → ℤ) → Fits f → (leaf_reached t f).predictor ≡ l.predictor
  pub offsets : (f : ℕ → ℤ) → Fits f → (leaf_reached t f).offset ≡ l.offset
  pub multipliers : (f : ℕ → ℤ) → Fits f → (leaf_reached t f).multiplier ≡ l.multiplier
  pub clusters : clustered ≡ true → (f : ℕ → ℤ) → Fits f → (leaf_reached t f).cluster ≡ l.cluster
  pub predictor : (l.predictor ≡ predictor.Zero) ⊎ (l.predictor ≡ predictor.Gradient)
  pub one : MultipliesByOne l

-- wherever the tree leads at a cell, the leaf there is as the one, or as such a table says
abbrev pub AreLoneLeaves : Bool → FlatTree → LoneLeaves → Type 0
AreLoneLeaves clustered t (One l) = IsLoneLeaf clustered t l
AreLoneLeaves clustered t (Table c) = IsGradientTable t c.now

-- this list begins with the tokens of the first n cells of a row, at these leaves and over these predictions
abbrev pub AreLeafTokens : {T : Type 0} → Form T → Width → (ℕ → Leaf) → (ℕ → ℤ) → List ℤ → ℕ → List T → Type 0
AreLeafTokens {T} form w leaves predicted row n out = (x : ℕ) (d : T) → x < n → IsLeafToken form w (leaves x) (predicted x) (get_or row x (pos 0)) (get_or out x d)

-- ---- rows that are walked cell by cell

module _ {D X : Type 0} (l : Line X D) where
  -- it is a row with cells, and the path of its channel gives what the tree gives
  pub record IsTokenLine : Type 0 where
    pub here : IsInChannel l.coding.now l.store.now l.i
    pub below : l.y < (region_on l).height
    pub columns : 0 < (region_on l).width
    pub gives : Gives (tree_of l.coding.now l.i) l.path
    pub clamped : l.clamped ≡ clamps (part_of l.coding.now) l.i

  -- these are its cells, with these rows of earlier channels at hand
  pub record IsTokenRow (rows : List (EarlierRow X)) (row : List X) : Type 0 where
    pub line : IsTokenLine
    pub are_rows : AreRowsOf (setting_of l.coding.now l.i).earlier l.store.now l.y rows
    pub has_cells : HasRow l.coding.now l.store.now l.i l.y row

  -- the state is at cell x of the row, and the list begins with the tokens of the cells before
  pub record IsAtToken {T : Type 0} (form : Form T) (w : Width) (to_int : X → ℤ) (x : ℕ) (out : List T) (state : PredictorState X) : Type 0 where
    pub long : length out ≡ (region_on l).width
    pub tokens : AreRowTokens l.coding.now w to_int l.store.now form l.i l.y x out
    pub stands : StandsAfter l.coding.now to_int l.store.now l.i (l.y * (region_on l).width + x) state
