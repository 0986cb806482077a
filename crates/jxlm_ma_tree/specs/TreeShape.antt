-- The tree that the program's nodes make.
use Rattle.jxlm_ma_tree.specs.Tree.{Shape, leaf, decision}
use Rattle.jxlm_ma_tree.specs.declared.leaf.Leaf.{Leaf as LeafFields}
use Rattle.jxlm_ma_tree.specs.declared.tree.MaTreeNode.{MaTreeNode, Leaf, Decision'}

-- boxes left out
abbrev pub shape_of : MaTreeNode → Shape LeafFields
shape_of (Leaf l) = leaf l
shape_of (Decision' property value p left q right) = decision property value (shape_of left) (shape_of right)
