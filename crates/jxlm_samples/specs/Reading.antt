-- Everything a part is decoded with, and what it must be.
use Rattle.std.specs.Prelude.{◌≡◌, ◌⊎◌, ℕ, zero, suc, ◌<◌, ◌≤◌, Bool, false, List, [], ◌∷◌, ◌==◌, length, max, get_or, slice_get, if◌then◌else◌, IfSome, Option, None, Some}
use Rattle.std.specs.List.{All, list_any}
use Rattle.std.specs.Option.{option_map_or}
use Rattle.jxlm_base.specs.declared.subgrid.Region.{Region}
use Rattle.jxlm_tree.specs.FlatTree.{FlatTree, ClustersStandIn, GoesWithoutWeights, ReadsEarlierBelow}
use Rattle.jxlm_tree.specs.LeafSets.{AreSetsOf}
use Rattle.jxlm_tree.specs.Paths.{IsGradientTable, IsLeafOf, IsPlainGradient, TakesGradientTable}
use Rattle.jxlm_weighted.specs.SelfCorrecting.{IsHeader}
use Rattle.jxlm_predictor.specs.Standing.{room_of, earlier_room_of, weights_of}
use Rattle.jxlm_tree.specs.Steps.{most_steps}
use Rattle.jxlm_tree.specs.Tree.{Shape, leaf, decision}
use Rattle.jxlm_ma_tree.specs.declared.leaf.Leaf.{Leaf}
use Rattle.jxlm_predictor.specs.declared.predictor.Predictor.TheVariants as predictor
use Rattle.jxlm_weighted.specs.declared.weights.WpHeader.{WpHeader}
use Rattle.jxlm_predictor.specs.declared.state.PredictorState.{PredictorState}
use Rattle.jxlm_transform.specs.Channels.{AreRegionsOf, Channel, IsNarrow, infos, regions}
use Rattle.jxlm_samples.specs.Part.{Part, channel, max_width}
use Rattle.jxlm_samples.specs.declared.coding.Alone.{Alone}
use Rattle.jxlm_samples.specs.declared.coding.Alone.TheVariants as alone
use Rattle.jxlm_samples.specs.declared.coding.ChannelTree.{ChannelTree}
use Rattle.jxlm_samples.specs.declared.coding.PartCoding.{PartCoding}
use Rattle.jxlm_samples.specs.declared.coding.PartState.{PartState}

-- the tree as channel i walks it, which may ask for all channels before
abbrev pub flat : Shape Leaf → ℕ → ℕ → FlatTree
flat t stream i = record { tree = t; channel = i; stream_idx = stream; prev_channels = i }

-- a leaf whose rows need no state of the predictors: it predicts by 0, or by the clamped gradient alone
abbrev pub ReadsAlone : Leaf → Type 0
ReadsAlone l = (l.predictor ≡ predictor.Zero) ⊎ IsPlainGradient l

-- every walk of the tree leads to this leaf, or where this table says, and its rows need no state of the predictors
abbrev pub LeadsAlone : FlatTree → Alone → Type 0
LeadsAlone t (alone.Leaf l) = IsLeafOf t l × ReadsAlone l
LeadsAlone t (alone.Table c) = IsGradientTable t c.value

-- the tree is one such leaf, or one that such a table serves
abbrev pub IsLone : Shape Leaf → Type 0
IsLone (leaf l) = ReadsAlone l
IsLone (decision k value left right) = TakesGradientTable (decision k value left right)

-- It is this flat tree, and asks for no more than it says. What its rows are read by alone, where there is that, gives
-- its leaves; there is that where the tree is one such leaf, or one that such a table serves. Its sets of leaves, where
-- there are any, give its leaves too.
pub record IsTreeOf (t : FlatTree) (c : ChannelTree) : Type 0 where
  pub flat_is : c.flat ≡ t
  pub without : c.weighted ≡ false → GoesWithoutWeights t
  pub below : ReadsEarlierBelow t c.asked
  pub few : c.asked ≤ t.prev_channels
  pub alone : IfSome c.alone (LeadsAlone t)
  pub walked : c.alone ≡ None → IsLone t.tree → ⊥
  pub sets : IfSome c.sets (AreSetsOf t)

-- There are `count` flat trees, each of this tree for its channel.
pub record HasFlats (t : Shape Leaf) (stream count : ℕ) (flats : List ChannelTree) : Type 0 where
  pub count_is : length flats ≡ count
  pub each : (i : ℕ) (other : ChannelTree) → i < count → IsTreeOf (flat t stream i) (get_or flats i other)

-- one of the trees may ask for the weights
abbrev pub are_weighted : List ChannelTree → Bool
are_weighted flats = list_any (λ c. c.weighted) flats

-- the maximum width of the channels with cells
abbrev pub sampled_width : List Channel → ℕ
sampled_width [] = 0
sampled_width (c ∷ channels) = max (if c.height == 0 then 0 else c.width) (sampled_width channels)

-- the width of a channel's rows where they are read in the predictors' state: 0 where they are read by a leaf or a table
-- alone, and where there are none
abbrev pub width_in_state : Option Alone → Channel → ℕ
width_in_state None c = if c.height == 0 then 0 else c.width
width_in_state (Some a) c = 0

-- what channel i is read by alone, if there is that
abbrev pub alone_in : List ChannelTree → ℕ → Option Alone
alone_in flats i = option_map_or (λ (t : ChannelTree). t.alone) (slice_get flats i) None

-- the maximum of it, of the first channels
abbrev pub walked_width : List Channel → List ChannelTree → ℕ → ℕ
walked_width channels flats zero = 0
walked_width channels flats (suc i) =
    max (walked_width channels flats i) (width_in_state (alone_in flats i) (channel channels i))

-- the predictors' state has room for channels of these flat trees up to this width, and the weights, where one of the
-- trees may ask for them; and there is room for a row
pub record IsRoomyFor {X : Type 0} (widest row : ℕ) (weights : WpHeader) (flats : List ChannelTree)
    (state : PartState X) : Type 0 where
  pub widest_is : room_of state.predictor ≡ widest
  pub earlier_is : earlier_room_of state.predictor ≡ length flats
  pub weights_is : weights_of state.predictor ≡ (if are_weighted flats then Some weights else None)
  pub row_is : length state.row.items ≡ row

module _ {D : Type 0} where
  -- the part that is coded so
  abbrev pub part_of : PartCoding D → Part
  part_of c =
      record { channels = infos c.channels.now; weights = c.weights; tree = c.config.now.tree; stream = c.stream_index }

  -- the regions of its channels
  abbrev pub regions_of : PartCoding D → List Region
  regions_of c = regions c.channels.now

  -- The regions have the sizes of the channels, which are narrow; the maximum width is theirs; each channel has its
  -- flat tree; the weights are those of a header.
  pub record IsCodingOf (c : PartCoding D) : Type 0 where
    pub sizes : AreRegionsOf (part_of c).channels (regions_of c)
    pub narrow : All IsNarrow (part_of c).channels
    pub widest : c.widest ≡ max_width (part_of c).channels
    pub flats : HasFlats c.config.now.tree c.stream_index (length (regions_of c)) c.flats.now
    pub weights : IsHeader c.weights

  -- the maximum width of a row that has cells
  abbrev pub row_width : PartCoding D → ℕ
  row_width c = sampled_width (part_of c).channels

  -- what channel i is read by alone, if there is that
  abbrev pub alone_at : PartCoding D → ℕ → Option Alone
  alone_at c i = alone_in c.flats.now i

  -- the maximum width of a row that is read in the predictors' state
  abbrev pub state_width : PartCoding D → ℕ
  state_width c = walked_width (part_of c).channels c.flats.now (length (part_of c).channels)

  -- the clusters that the tree asks for are among these
  abbrev pub FindsClusters : PartCoding D → List ℕ → Type 0
  FindsClusters c clusters = ClustersStandIn clusters c.config.now.tree

  -- the weights, where one of the flat trees may ask for them
  abbrev pub weights_used : PartCoding D → Option WpHeader
  weights_used c = if are_weighted c.flats.now then Some c.weights else None

  -- its tree as channel i walks it
  abbrev pub tree_of : PartCoding D → ℕ → FlatTree
  tree_of c i = flat c.config.now.tree c.stream_index i

  -- the maximum number of steps to a leaf
  abbrev pub cost_of : PartCoding D → ℕ
  cost_of c = most_steps c.config.now.tree

  module _ {X : Type 0} where
    -- the predictors' state has room for channels up to this width, and the weights that are used
    pub record HasRoomFor (width : ℕ) (c : PartCoding D) (state : PredictorState X) : Type 0 where
      pub widest : width ≤ room_of state
      pub earlier : length (regions_of c) ≤ earlier_room_of state
      pub weights : weights_of state ≡ weights_used c

    -- it has room for each channel that is read in it
    abbrev pub HasRoom : PartCoding D → PredictorState X → Type 0
    HasRoom c state = HasRoomFor (state_width c) c state

    -- it has room up to this width, and there is room for a row of each channel with cells
    pub record IsRoomy (width : ℕ) (c : PartCoding D) (state : PartState X) : Type 0 where
      pub predictor : HasRoomFor width c state.predictor
      pub row : row_width c ≤ length state.row.items
