-- What stands in a tree, counted and named from below.
use Rattle.std.specs.Prelude.{◌≡◌, ℕ, ◌+◌, Bool, false}
use Rattle.jxlm_ma_tree.specs.Tree.{Shape, leaf, decision}
use Rattle.jxlm_ma_tree.specs.declared.leaf.Leaf.{Leaf}

-- the number of nodes
abbrev pub size : Shape Leaf → ℕ
size (leaf l) = 1
size (decision property value left right) = size left + size right + 1

-- no decision tests a property that `p` names, and no leaf is one that `q` names
abbrev pub Lacks : (ℕ → Bool) → (Leaf → Bool) → Shape Leaf → Type 0
Lacks p q (leaf l) = q l ≡ false
Lacks p q (decision k value left right) = (p k ≡ false) × (Lacks p q left × Lacks p q right)
