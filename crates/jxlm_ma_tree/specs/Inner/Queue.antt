-- How a tree comes from the end of its listing by a queue: a leaf goes to the back, and a decision takes its right and
-- then its left tree from the front.
use Rattle.std.specs.Prelude.{◌≡◌, ◌⊎◌, ℕ, ◌<◌, max, List, [], ◌∷◌, ◌++◌, Option, None, Some, codes}
use Rattle.jxlm_bits.specs.ErrorKind.{ErrorKind, BadProfile, NoMemory}
use Rattle.jxlm_ma_tree.specs.Tree.{Shape, leaf, decision, Node, leaf_node, decision_node, depth, levels}

module _ {L : Type 0} where
  -- the queue after a node
  abbrev pub taken_up : Node L → List (Shape L) → Option (List (Shape L))
  taken_up (leaf_node l) queue = Some (queue ++ leaf l ∷ [])
  taken_up (decision_node property value) [] = None
  taken_up (decision_node property value) (right ∷ []) = None
  taken_up (decision_node property value) (right ∷ (left ∷ rest)) = Some (rest ++ decision property value left right ∷ [])

  -- the maximum depth among trees
  abbrev pub deepest : List (Shape L) → ℕ
  deepest [] = 0
  deepest (t ∷ ts) = max (depth t) (deepest ts)

-- the error of a tree that is too deep
abbrev pub too_deep : ErrorKind
too_deep = BadProfile (codes "decoded MA tree is too deep")

-- this tree is too deep, or out of memory
abbrev pub IsTooDeepAt : {L : Type 0} → ℕ → Shape L → ErrorKind → Type 0
IsTooDeepAt limit t error = (error ≡ NoMemory) ⊎ ((error ≡ too_deep) × (limit < depth t))

-- a tree of the queue is too deep
pub record HasTooDeep {L : Type 0} (limit : ℕ) (queue : Option (List (Shape L))) (error : ErrorKind) : Type 0 where
  pub failure : error ≡ too_deep
  pub trees : List (Shape L)
  pub are : queue ≡ Some trees
  pub beyond : limit < deepest trees

abbrev pub IsErrorInQueue : {L : Type 0} → ℕ → Option (List (Shape L)) → ErrorKind → Type 0
IsErrorInQueue limit queue error = (error ≡ NoMemory) ⊎ HasTooDeep limit queue error

-- the tree of this listing is too deep
pub record ListsTooDeep {L : Type 0} (limit : ℕ) (listing : List (Node L)) (error : ErrorKind) : Type 0 where
  pub failure : error ≡ too_deep
  pub tree : Shape L
  pub lists : levels tree ≡ listing
  pub beyond : limit < depth tree

abbrev pub IsTooDeepListing : {L : Type 0} → ℕ → List (Node L) → ErrorKind → Type 0
IsTooDeepListing limit listing error = (error ≡ NoMemory) ⊎ ListsTooDeep limit listing error
