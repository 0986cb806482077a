-- The tree of nodes and clusters, read back or not.
use Rattle.std.specs.Prelude.{◌≡◌, ℕ, ◌≤◌, List}
use Rattle.jxlm_tree.specs.Tree.{Shape, levels, depth}
use Rattle.jxlm_ma_tree.specs.declared.leaf.Leaf.{Leaf}
use Rattle.jxlm_encode_write.specs.declared.tree.EncodeNode.{EncodeNode}
use Rattle.jxlm_encode_streams.specs.TreeStreams.{clustered_nodes}
use Rattle.jxlm_encode.specs.declared.error.EncodeError.{EncodeError}
use Rattle.jxlm_encode.specs.declared.error.EncodeError.TheVariants.{InvalidTransform, InvalidTree, OutOfMemory}

-- the nodes list this tree, with these clusters, which is not too deep
pub record IsRead (nodes : List EncodeNode) (clusters : List ℕ) (depth_limit : ℕ) (t : Shape Leaf) : Type 0 where
  pub listed : levels t ≡ clustered_nodes nodes clusters
  pub within : depth t ≤ depth_limit

-- their tree is too deep, or memory is out
abbrev pub IsNotRead : List EncodeNode → List ℕ → ℕ → EncodeError → Type 0
IsNotRead nodes clusters depth_limit (InvalidTransform k) = ⊥
IsNotRead nodes clusters depth_limit InvalidTree = (t : Shape Leaf) → IsRead nodes clusters depth_limit t → ⊥
IsNotRead nodes clusters depth_limit OutOfMemory = Unit {0}
