-- A sound list is a fact.
use Rattle.std.proofs.Common.{ℕ, List, [], ◌∷◌, length}
use Rattle.std.proofs.Props.{props}
use Rattle.jxlm_tree.specs.declared.flat.FlatNode.{FlatNode}
use Rattle.jxlm_tree.specs.declared.flat.FlatNode.TheVariants as node
use Rattle.jxlm_tree.specs.Inner.FlatNodes.{LeadsBelow, IsSound}

LeadsBelow-prop : (k : ℕ) (n : FlatNode) → IsProp (LeadsBelow k n)
LeadsBelow-prop k (node.Leaf l) = hlevel
LeadsBelow-prop k (node.Table property base entries) = hlevel props
LeadsBelow-prop k (node.Fused property value left right) = hlevel props

pub IsSound-prop : (ns : List FlatNode) → IsProp (IsSound ns)
IsSound-prop [] = hlevel
IsSound-prop (n ∷ older) = hlevel (LeadsBelow-prop (length older) n, IsSound-prop older)
