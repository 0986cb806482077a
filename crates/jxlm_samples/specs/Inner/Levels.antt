-- Where the loops over rows and channels are.
use Rattle.std.specs.Prelude.{◌≡◌, ℕ, ◌≤◌, ℤ, List, [], length, map, true, Option, None, IfSome}
use Rattle.jxlm_bits.specs.Decoding.{Meaning}
use Rattle.jxlm_base.specs.Grid.{Grid}
use Rattle.jxlm_tree.specs.Paths.{Gives, steps_on}
use Rattle.jxlm_ma_tree.specs.declared.leaf.Leaf.{Leaf}
use Rattle.jxlm_tree.specs.declared.paths.Path.{Path}
use Rattle.jxlm_predictor.specs.declared.state.PredictorState.{PredictorState}
use Rattle.jxlm_samples.specs.ChannelSettings.{IsAfterChannel, StandsAfter, StandsIn}
use Rattle.jxlm_samples.specs.Inner.LeafRows.{IsLeafAlone}
use Rattle.jxlm_samples.specs.Inner.Paths.{Allows, is_walked}
use Rattle.jxlm_samples.specs.Inner.Rows.{IsDecoding, IsDecodingPart, StandsInRow}
use Rattle.jxlm_samples.specs.Reading.{FindsClusters, HasRoom, alone_at, cost_of, row_width, tree_of}
use Rattle.jxlm_samples.specs.declared.coding.PartCoding.{PartCoding}
use Rattle.jxlm_samples.specs.declared.rows.Line.{Line}
use Rattle.jxlm_samples.specs.declared.source.Walk.{Walk}

-- there is room for each channel that is read in the predictors' state, and for a row of each with cells
pub record HasRooms {D X : Type 0} (c : PartCoding D) (state : PredictorState X) (scratch : List X) : Type 0 where
  pub predictor : HasRoom c state
  pub row : row_width c ≤ length scratch

-- after the read of a row, the predictors' state is after it, where the path needs that
pub record IsOnPath {D X : Type 0} (l : Line X D) (to_int : X → ℤ) (row : List X) (only : Option Leaf) (walk : Walk X D) :
    Type 0 where
  pub within : alone_at l.coding.now l.i ≡ None → StandsIn l.coding.now l.i walk.state
  pub stands : is_walked l.path ≡ true → only ≡ None → StandsInRow l.coding.now to_int l.store.now l.i l.y (map to_int row) walk.state
  pub roomy : HasRoom l.coding.now walk.state

-- The rows of channel i can be read so, and where they are read in the predictors' state, it is before the first one.
pub record CanBegin {D X : Type 0} (c : PartCoding D) (to_int : X → ℤ) (i : ℕ) (path : Path) (state : PredictorState X) :
    Type 0 where
  pub gives : Gives (tree_of c i) path
  pub allows : Allows path
  pub steps : steps_on path c.config.now.tree ≤ cost_of c
  pub roomy : HasRoom c state
  pub within : alone_at c i ≡ None → StandsIn c i state
  pub stands : is_walked path ≡ true → (store : List (Grid X)) → StandsAfter c to_int store i 0 state

module _ {D X : Type 0} (d : Meaning D) (c : PartCoding D) (walk : Walk X D) where
  -- the decoder has the clusters that the tree asks for, and there is room for each channel
  pub record IsReady : Type 0 where
    pub clusters : FindsClusters c (d.cluster_map walk.source.decoder)
    pub roomy : HasRoom c walk.state

  -- the walk is before row y of channel i, whose rows are read so, at this leaf if there is one
  pub record IsAtRow (to_int : X → ℤ) (store : List (Grid X)) (path : Path) (only : Option Leaf) (i y : ℕ) : Type 0 where
    pub here : IsDecoding c i store
    pub gives : Gives (tree_of c i) path
    pub allows : Allows path
    pub steps : steps_on path c.config.now.tree ≤ cost_of c
    pub ready : IsReady
    pub within : alone_at c i ≡ None → StandsIn c i walk.state
    pub leads : IfSome only (IsLeafAlone (tree_of c i))
    pub stands : is_walked path ≡ true → only ≡ None → StandsInRow c to_int store i y [] walk.state

  -- the walk is before channel i
  pub record IsAtChannel (store : List (Grid X)) (i : ℕ) : Type 0 where
    pub part : IsDecodingPart c store
    pub ready : IsReady
    pub last : IsAfterChannel c i walk.state
