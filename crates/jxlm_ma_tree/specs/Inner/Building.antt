-- The program's nodes and trees while a tree is put together, as the definitions have them.
use Rattle.std.specs.Prelude.{ℕ, ℤ, List, Option, map}
use Rattle.jxlm_ma_tree.specs.Tree.{Shape, decision, Node, leaf_node, decision_node}
use Rattle.jxlm_ma_tree.specs.TreeReading.{with_clusters}
use Rattle.jxlm_ma_tree.specs.Inner.DraftReading.{node_of}
use Rattle.jxlm_ma_tree.specs.Inner.Queue.{taken_up}
use Rattle.jxlm_ma_tree.specs.TreeShape.{shape_of}
use Rattle.jxlm_ma_tree.specs.declared.build.ListedNode.{ListedNode}
use Rattle.jxlm_ma_tree.specs.declared.build.ListedNode.TheVariants as node
use Rattle.jxlm_ma_tree.specs.declared.leaf.Leaf.{Leaf}
use Rattle.jxlm_ma_tree.specs.declared.nodes.DraftNode.{DraftNode}
use Rattle.jxlm_ma_tree.specs.declared.tree.MaTree.{MaTree}

-- the node of a listing
abbrev pub listed_of : ListedNode → Node Leaf
listed_of (node.Leaf l) = leaf_node l
listed_of (node.Decision property value) = decision_node property value

-- a leaf is one leaf
abbrev pub leaves_in : Node Leaf → ℕ
leaves_in (leaf_node l) = 1
leaves_in (decision_node property value) = 0

-- what is known of their nodes left out
abbrev pub trees_in : List MaTree → List (Shape Leaf)
trees_in trees = map (λ (x : MaTree). shape_of x.root) trees

-- the listing of these nodes, whose leaves have these clusters in their order
abbrev pub listing_with : List ℕ → List DraftNode → List (Node Leaf)
listing_with clusters nodes = with_clusters clusters 0 (map node_of nodes)

-- the queue after a node
abbrev pub queue_with : ListedNode → List MaTree → Option (List (Shape Leaf))
queue_with n queue = taken_up (listed_of n) (trees_in queue)

-- a decision over two trees
abbrev pub decision_of : ℕ → ℤ → MaTree → MaTree → Shape Leaf
decision_of property value left right = decision property value (shape_of left.root) (shape_of right.root)
