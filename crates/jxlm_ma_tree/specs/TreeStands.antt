-- How a tree stands in the bits (ISO/IEC 18181-1, Modular: decoding of meta-adaptive trees): token after token, level by level.
use Rattle.std.specs.Prelude.{◌≡◌, ℕ, suc, ◌+◌, ◌*◌, ◌^◌, ◌<◌, ◌≤◌, ◌↔◌, List, [], ◌∷◌, length, slice_get, slice_index, Some, Ok}
use Rattle.jxlm_bits.specs.Decoding.{Found, Meaning, Taken}
use Rattle.jxlm_bits.specs.Numbers.{unpack}
use Rattle.jxlm_predictor.specs.Predictions.{predictors}
use Rattle.jxlm_ma_tree.specs.Tree.{Config, Node, Shape, leaf_node, decision_node, depth, levels, node_count}
use Rattle.jxlm_ma_tree.specs.TreeReading.{IsTreeAt, listing_at}
use Rattle.jxlm_ma_tree.specs.declared.leaf.Leaf.{Leaf}

-- the clusters of the leaves, in their order
abbrev pub leaf_clusters : List (Node Leaf) → List ℕ
leaf_clusters [] = []
leaf_clusters (decision_node property value ∷ rest) = leaf_clusters rest
leaf_clusters (leaf_node l ∷ rest) = l.cluster ∷ leaf_clusters rest

-- A cursor is a decoder's state and a position in bits.
module _ {S : Type 0} (d : Meaning S) (bytes : List ℕ) where
  -- the token of a context stands from cursor a to cursor b
  abbrev pub TokenStands : ℕ → Found S → ℕ → Found S → Type 0
  TokenStands context a token b = d.read a.value bytes a.position (slice_index (d.cluster_map a.value) context) 0 ≡ Ok (record { value = token; state = b.value; position = b.position })

  -- The tokens of a leaf stand from cursor a to cursor b: its predictor's number, its offset, and its multiplier,
  -- which is a factor times a power of two.
  pub record LeafStands (a : Found S) (l : Leaf) (b : Found S) : Type 0 where
    pub number : ℕ
    pub after_number : Found S
    pub number_stands : TokenStands 2 a number after_number
    pub predictor : slice_get predictors number ≡ Some l.predictor
    pub offset_token : ℕ
    pub after_offset : Found S
    pub offset_stands : TokenStands 3 after_number offset_token after_offset
    pub offset : l.offset ≡ unpack offset_token
    pub log : ℕ
    pub after_log : Found S
    pub log_stands : TokenStands 4 after_offset log after_log
    pub factor : ℕ
    pub factor_stands : TokenStands 5 after_log factor b
    pub multiplier : l.multiplier ≡ (factor + 1) * 2 ^ log
    pub below : l.multiplier < 2 ^ 31

  -- The tokens of a node stand from cursor a to cursor b: 0 and then a leaf, or property + 1 and then the value of a decision.
  abbrev pub NodeStands : Found S → Node Leaf → Found S → Type 0
  NodeStands a (leaf_node l) b = (m : Found S) × TokenStands 1 a 0 m × LeafStands m l b
  NodeStands a (decision_node property value) b = (m : Found S) × (token : ℕ) × TokenStands 1 a (suc property) m × TokenStands 0 m token b × (value ≡ unpack token)

  -- nodes stand one after another, from cursor a to cursor b
  abbrev pub NodesStand : Found S → List (Node Leaf) → Found S → Type 0
  NodesStand a [] b = b ≡ a
  NodesStand a (n ∷ ns) b = (m : Found S) × NodeStands a n m × NodesStand m ns b

  -- A tree within these limits stands from position p to position q: a decoder of six contexts, the nodes level by level,
  -- and a decoder with a context for each leaf; the leaves have its clusters, in order.
  pub record TreeStands (node_limit depth_limit p : ℕ) (config : Config S) (q : ℕ) : Type 0 where
    pub decoder : Found S
    pub decoder_stands : d.parse bytes p 6 ≡ Ok decoder
    pub first : Found S
    pub begins : d.begin decoder.value bytes decoder.position ≡ Ok first
    pub last : Found S
    pub nodes : NodesStand first (levels config.tree) last
    pub ends : d.finalize last.value ≡ Ok tt
    pub leaves : d.parse bytes last.position (length (leaf_clusters (levels config.tree))) ≡ Ok (record { value = config.decoder; position = q })
    pub clusters : leaf_clusters (levels config.tree) ≡ d.cluster_map config.decoder
    pub most : node_count config.tree ≤ 2 ^ 26
    pub limit : node_count config.tree ≤ node_limit + 1
    pub within : depth config.tree ≤ depth_limit

-- What is read as the nodes of a tree is the listing of a tree.
abbrev pub EachListingIsOfATree : {S : Type 0} → Meaning S → Type 0
EachListingIsOfATree {S} d = (bytes : List ℕ) (node_limit p : ℕ) (x : Taken (List (Node Leaf)) S) →
    listing_at d bytes node_limit p ≡ Ok x → (t : Shape Leaf) × (levels t ≡ x.value)

-- The two laws of a tree: the parser returns exactly what the bits at its position code.
abbrev pub TreesAreReadExactly : {S : Type 0} → Meaning S → Type 0
TreesAreReadExactly {S} d = (bytes : List ℕ) (node_limit depth_limit p : ℕ) (config : Config S) (q : ℕ) →
    IsTreeAt d bytes node_limit depth_limit p config q ↔ TreeStands d bytes node_limit depth_limit p config q

-- At most one tree stands at a position, with one decoder, and it ends at one position.
abbrev pub OneTreeStands : {S : Type 0} → Meaning S → Type 0
OneTreeStands {S} d = (bytes : List ℕ) (node_limit depth_limit p : ℕ) (x y : Config S) (q r : ℕ) → TreeStands d bytes node_limit depth_limit p x q → TreeStands d bytes node_limit depth_limit p y r → (x ≡ y) × (q ≡ r)
