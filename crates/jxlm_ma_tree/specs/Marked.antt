-- Trees whose decisions know which of them a table serves.
use Rattle.std.specs.Prelude.{◌≡◌, ℕ, ◌==◌, Bool, false, ℤ, List, [], ◌∷◌}
use Rattle.jxlm_ma_tree.specs.declared.leaf.Leaf.{Leaf as LeafFields}
use Rattle.jxlm_ma_tree.specs.declared.marks.Marked.{Marked, Leaf, Decision'}
use Rattle.jxlm_ma_tree.specs.declared.marks.Marks.{Marks}
use Rattle.jxlm_ma_tree.specs.Tree.{Shape, leaf, decision}
use Rattle.jxlm_ma_tree.specs.Cuts.{cuts, greatest, least, tabled}

-- boxes and tables left out
abbrev pub marked_shape : Marked → Shape LeafFields
marked_shape (Leaf l) = leaf l
marked_shape (Decision' property value table p left q right) = decision property value (marked_shape left) (marked_shape right)

-- each decision has the table of its tree
abbrev pub IsMarked : Marked → Type 0
IsMarked (Leaf l) = Unit {0}
IsMarked (Decision' property value table p left q right) =
    (table ≡ tabled (decision property value (marked_shape left) (marked_shape right))) × (IsMarked left × IsMarked right)

-- the root asks for property p
abbrev pub asks_for : ℕ → Shape LeafFields → Bool
asks_for p (leaf l) = false
asks_for p (decision q v left right) = q == p

-- the cuts of the decisions on the root's property that hang together from the root
abbrev pub root_cuts : Shape LeafFields → List ℤ
root_cuts (leaf l) = []
root_cuts (decision p v left right) = cuts p least greatest (decision p v left right)

-- a marked tree, with the cuts of its root
pub record AreMarks (m : Marks) : Type 0 where
  pub marked : IsMarked m.tree
  pub cuts : m.cuts.items ≡ root_cuts (marked_shape m.tree)

-- P of each cut
abbrev pub Each : (ℤ → Type 0) → List ℤ → Type 0
Each P [] = Unit {0}
Each P (v ∷ vs) = P v × Each P vs
