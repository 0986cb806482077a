-- Trees as an encoder is given them, before and after they were read back.
use Rattle.std.specs.Prelude.{◌≡◌, ℕ, zero, suc, [], ◌∷◌, ◌+◌, ◌-◌, ◌≤◌, List, map}
use Rattle.jxlm_header.specs.Opening.{depth_limit}
use Rattle.jxlm_tree.specs.Tree.{Shape, levels, node_count, depth}
use Rattle.jxlm_ma_tree.specs.declared.leaf.Leaf.{Leaf}
use Rattle.jxlm_transform.specs.Channels.{Channel}
use Rattle.jxlm_encode_write.specs.Nodes.{node_of}
use Rattle.jxlm_encode_write.specs.declared.tree.EncodeNode.{EncodeNode}
use Rattle.jxlm_encode_write.specs.declared.tree.EncodeNode.TheVariants as given
use Rattle.jxlm_encode.specs.Encoded.{IsTreeGiven}
use Rattle.jxlm_encode.specs.declared.error.EncodeError.{EncodeError}
use Rattle.jxlm_encode.specs.declared.error.EncodeError.TheVariants.{InvalidTransform, InvalidTree, OutOfMemory}

-- these nodes are those of n trees, the rows of all side by side
abbrev pub AreNodesOf : ℕ → List EncodeNode → Type 0
AreNodesOf zero [] = Unit {0}
AreNodesOf zero (x ∷ nodes) = ⊥
AreNodesOf (suc n) [] = ⊥
AreNodesOf (suc n) (given.Decision property value ∷ nodes) = AreNodesOf (n + 2) nodes
AreNodesOf (suc n) (given.Leaf predictor offset ∷ nodes) = AreNodesOf n nodes

-- how many nodes are missing after a node, of n that were
abbrev pub left_after : EncodeNode → ℕ → ℕ
left_after (given.Decision property value) n = n + 1
left_after (given.Leaf predictor offset) n = n - 1

-- the nodes list this tree, which is within these limits
pub record IsTreeRead (nodes : List EncodeNode) (limit : ℕ) (t : Shape Leaf) : Type 0 where
  pub listed : levels t ≡ map node_of nodes
  pub count : node_count t ≤ limit + 1
  pub within : depth t ≤ depth_limit

-- the tree that the nodes list is too deep, or memory is out
abbrev pub IsNotRead : List EncodeNode → EncodeError → Type 0
IsNotRead nodes (InvalidTransform k) = ⊥
IsNotRead nodes InvalidTree = (t : Shape Leaf) → levels t ≡ map node_of nodes → depth t ≤ depth_limit → ⊥
IsNotRead nodes OutOfMemory = Unit {0}

-- no tree is given by the nodes, or memory is out
abbrev pub IsNotGiven : List EncodeNode → List Channel → EncodeError → Type 0
IsNotGiven nodes channels (InvalidTransform k) = ⊥
IsNotGiven nodes channels InvalidTree = (t : Shape Leaf) → IsTreeGiven nodes channels t → ⊥
IsNotGiven nodes channels OutOfMemory = Unit {0}
