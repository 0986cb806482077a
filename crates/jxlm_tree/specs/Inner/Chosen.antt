-- What a table chooses of a tree.
use Rattle.std.specs.Prelude.{ℕ, ◌+◌, ◌==◌, ℤ, int_lt, if◌then◌else◌}
use Rattle.jxlm_ma_tree.specs.declared.leaf.Leaf.{Leaf}
use Rattle.jxlm_ma_tree.specs.Tree.{Shape, leaf, decision}
use Rattle.jxlm_tree.specs.Inner.FlatShapes.{size}

-- the tree that is left once all decisions on property p that hang together from the root are taken at x
abbrev pub chosen : ℕ → ℤ → Shape Leaf → Shape Leaf
chosen p x (leaf l) = leaf l
chosen p x (decision q v left right) = if q == p then (if int_lt v x then chosen p x left else chosen p x right) else decision q v left right

-- the nodes of the trees that hang from the decisions on p that hang together from the root
abbrev pub hanging : ℕ → Shape Leaf → ℕ
hanging p (leaf l) = 1
hanging p (decision q v left right) = if q == p then hanging p left + hanging p right else size (decision q v left right)
