-- A tree as the samples of one channel walk it (ISO/IEC 18181-1, Modular: meta-adaptive trees, properties).
use Rattle.std.specs.Prelude.{◌≡◌, ◌≢◌, ◌⊎◌, ℕ, ◌+◌, ◌*◌, ◌<◌, ◌^◌, ◌≤◌, ◌==◌, ◌||◌, nat_lt, if◌then◌else◌, ℤ, pos, ◌+ℤ◌, ◌*ℤ◌, Bool, List, Contains}
use Rattle.std.specs.Int.{w32, int_wrap}
use Rattle.jxlm_bits.specs.Numbers.{unpack}
use Rattle.jxlm_tree.specs.ShortTrees.{Fits}
use Rattle.jxlm_ma_tree.specs.Tree.{AllLeaves, Shape, leaf, decision, walk}
use Rattle.jxlm_ma_tree.specs.declared.leaf.Leaf.{Leaf}
use Rattle.jxlm_predictor.specs.Predictions.{is_self_correcting}
use Rattle.jxlm_predictor.specs.declared.predictor.Predictor.TheVariants.{SelfCorrecting}
use Rattle.jxlm_ma_tree.specs.EarlierChannels.{earlier_of}

-- a tree, the channel's index in its part, the stream's index, and how many earlier channels there are
pub record FlatTree : Type 0 where
  pub tree : Shape Leaf
  pub channel : ℕ
  pub stream_idx : ℕ
  pub prev_channels : ℕ

abbrev pub flat_tree : Shape Leaf → ℕ → ℕ → ℕ → FlatTree
flat_tree t c s n = record { tree = t; channel = c; stream_idx = s; prev_channels = n }

-- property k as a decision asks for it: 0 and 1 are the channel and the stream, read as 32-bit numbers; those of
-- earlier channels that there are none of are 0; each other one is that of the cell
abbrev pub property_of : FlatTree → (ℕ → ℤ) → ℕ → ℤ
property_of t of_place k =
    if k == 0 then int_wrap w32 (pos t.channel)
    else if k == 1 then int_wrap w32 (pos t.stream_idx)
    else if nat_lt k (16 + 4 * t.prev_channels) then of_place k
    else pos 0

-- the leaf to which the properties of a cell lead
abbrev pub leaf_reached : FlatTree → (ℕ → ℤ) → Leaf
leaf_reached t of_place = walk t.tree (property_of t of_place)

-- the properties that a cell gives are those of f
abbrev pub PropertiesAre : {P : Type 0} → (P → ℕ → ℤ → Type 0) → P → (ℕ → ℤ) → Type 0
PropertiesAre gives place f = (k : ℕ) (v : ℤ) → gives place k v → v ≡ f k

-- what the sample of a token is before its prediction, in 32 bits
abbrev pub residual_of : Leaf → ℕ → ℤ
residual_of l token = int_wrap w32 (unpack token *ℤ pos l.multiplier +ℤ l.offset)

-- property 15 or the weighted predictor is somewhere in the tree
abbrev pub needs_weights : Shape Leaf → Bool
needs_weights (leaf l) = is_self_correcting l.predictor
needs_weights (decision k value left right) = (k == 15) || needs_weights left || needs_weights right

-- a decision on a property of this earlier channel, counted from 1, is somewhere in the tree
abbrev pub NamesEarlier : ℕ → Shape Leaf → Type 0
NamesEarlier n (leaf l) = ⊥
NamesEarlier n (decision k value left right) = (earlier_of k ≡ n) ⊎ (NamesEarlier n left ⊎ NamesEarlier n right)

-- a leaf's multiplier lies in its range
abbrev pub HasMultiplier : Leaf → Type 0
HasMultiplier l = (1 ≤ l.multiplier) × (l.multiplier < 2 ^ 31)

-- each leaf's cluster is one of these
abbrev pub ClustersStandIn : List ℕ → Shape Leaf → Type 0
ClustersStandIn clusters t = AllLeaves (λ l. Contains clusters l.cluster) t

-- properties of 32 bits that are the same but for property 15 lead to one leaf, which does not predict by the weighted
-- predictor
abbrev pub GoesWithoutWeights : FlatTree → Type 0
GoesWithoutWeights t =
    (f g : ℕ → ℤ) → Fits f → Fits g → ((k : ℕ) → k ≢ 15 → f k ≡ g k) → (leaf_reached t f ≡ leaf_reached t g) × ((leaf_reached t f).predictor ≢ SelfCorrecting)

-- earlier channels from this one on do not matter: properties of 32 bits that are the same below theirs lead to one leaf
abbrev pub ReadsEarlierBelow : FlatTree → ℕ → Type 0
ReadsEarlierBelow t n = (f g : ℕ → ℤ) → Fits f → Fits g → ((k : ℕ) → k < 16 + 4 * n → f k ≡ g k) → leaf_reached t f ≡ leaf_reached t g
