-- Decision trees (ISO/IEC 18181-1, Modular: meta-adaptive trees). They are described by what their leaves hold.
use Rattle.std.specs.Prelude.{◌≡◌, ◌⊎◌, ℕ, ◌+◌, max, ℤ, int_lt, if◌then◌else◌, List, [], ◌∷◌, ◌++◌}
use Rattle.std.specs.List.{flat_map}
use Rattle.jxlm_ma_tree.specs.declared.leaf.Leaf.{Leaf}

-- a tree: a leaf, or a decision on a property and a value, with the trees to the left and to the right
pub data Shape (L : Type 0) : Type 0 where
  leaf : L → Shape L
  decision : ℕ → ℤ → Shape L → Shape L → Shape L

-- one node of a listing
pub data Node (L : Type 0) : Type 0 where
  leaf_node : L → Node L
  decision_node : ℕ → ℤ → Node L

module _ {L : Type 0} where
  -- the leaf that is reached: to the left where the property is greater than the value
  abbrev pub walk : Shape L → (ℕ → ℤ) → L
  walk (leaf l) f = l
  walk (decision k value left right) f = if int_lt value (f k) then walk left f else walk right f

  -- the maximum number of decisions from the root to a leaf
  abbrev pub depth : Shape L → ℕ
  depth (leaf l) = 0
  depth (decision k value left right) = max (depth left) (depth right) + 1

  -- how many nodes there are
  abbrev pub node_count : Shape L → ℕ
  node_count (leaf l) = 1
  node_count (decision k value left right) = 1 + node_count left + node_count right

  -- what holds of each leaf
  abbrev pub AllLeaves : (L → Type 0) → Shape L → Type 0
  AllLeaves P (leaf l) = P l
  AllLeaves P (decision k value left right) = AllLeaves P left × AllLeaves P right

  -- x is at a leaf
  abbrev pub StandsAtLeaf : Shape L → L → Type 0
  StandsAtLeaf (leaf l) x = x ≡ l
  StandsAtLeaf (decision k value left right) x = StandsAtLeaf left x ⊎ StandsAtLeaf right x

  -- rows of one tree to the left of those of another
  abbrev pub beside : List (List (Node L)) → List (List (Node L)) → List (List (Node L))
  beside [] bs = bs
  beside (a ∷ as') [] = a ∷ as'
  beside (a ∷ as') (b ∷ bs) = (a ++ b) ∷ beside as' bs

  -- the rows of a tree, from the root down, each from left to right
  abbrev pub rows : Shape L → List (List (Node L))
  rows (leaf l) = (leaf_node l ∷ []) ∷ []
  rows (decision k value left right) = (decision_node k value ∷ []) ∷ beside (rows left) (rows right)

  -- the nodes level by level, the left child before the right
  abbrev pub levels : Shape L → List (Node L)
  levels t = flat_map (λ row. row) (rows t)

-- a tree, and the decoder of its leaves' clusters
pub record Config (S : Type 0) : Type 0 where
  pub tree : Shape Leaf
  pub decoder : S

-- a tree with its decoder
abbrev pub config_of : {S : Type 0} → Shape Leaf → S → Config S
config_of t s = record { tree = t; decoder = s }
