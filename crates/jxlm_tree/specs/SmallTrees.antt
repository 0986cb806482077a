-- Small trees, which are made into sets of leaves.
use Rattle.std.specs.Prelude.{◌≡◌, ℕ, ◌≤◌, ◌&&◌, not, nat_lt, Bool, true, ℤ, pos, neg_ℤ, int_lt, List, [], ◌∷◌, ◌++◌, length}
use Rattle.jxlm_tree.specs.CompiledNodes.{prune}
use Rattle.jxlm_tree.specs.FlatTree.{FlatTree}
use Rattle.jxlm_ma_tree.specs.Tree.{Shape, decision, depth, leaf}
use Rattle.jxlm_ma_tree.specs.declared.leaf.Leaf.{Leaf}

-- a property that has a table
abbrev pub has_table : ℕ → Bool
has_table p = not (nat_lt p 9) && nat_lt p 16

-- a cut that the entries of a table tell from all other values
abbrev pub is_in_range : ℤ → Bool
is_in_range v = not (int_lt v (neg_ℤ (pos 1024))) && int_lt v (pos 1023)

-- all decisions of a tree are on properties that have tables, and cut in their range
abbrev pub is_served : Shape Leaf → Bool
is_served (leaf l) = true
is_served (decision p v left right) = (has_table p && is_in_range v) && (is_served left && is_served right)

-- the leaves of a tree, from left to right
abbrev pub leaves_of : Shape Leaf → List Leaf
leaves_of (leaf l) = l ∷ []
leaves_of (decision p v left right) = leaves_of left ++ leaves_of right

-- a tree is made into sets where it has this depth
abbrev pub FitsSets : Shape Leaf → ℕ → Type 0
FitsSets t deep = (7 ≤ deep) × ((length (leaves_of t) ≤ 64) × (is_served t ≡ true))

-- what is left of a tree for its channel is made into sets
abbrev pub TakesSets : FlatTree → Type 0
TakesSets t = FitsSets (prune t t.tree) (depth t.tree)
