-- Nodes that list a tree (ISO/IEC 18181-1, Modular: meta-adaptive trees).
use Rattle.std.specs.Prelude.{◌≡◌, List, map}
use Rattle.jxlm_tree.specs.Tree.{Shape, levels}
use Rattle.jxlm_ma_tree.specs.declared.leaf.Leaf.{Leaf}
use Rattle.jxlm_encode_write.specs.Nodes.{node_of}
use Rattle.jxlm_encode_write.specs.declared.tree.EncodeNode.{EncodeNode}

-- the nodes are those of one tree, level by level
abbrev pub ListsOneTree : List EncodeNode → Type 0
ListsOneTree nodes = (t : Shape Leaf) × (levels t ≡ map node_of nodes)
