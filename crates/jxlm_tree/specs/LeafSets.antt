-- Small trees as sets of leaves.
use Rattle.std.specs.Prelude.{◌≡◌, ℕ, ◌<◌, ◌≤◌, true, false, ℤ, pos, List, length, get_or, slice_index_or}
use Rattle.jxlm_tree.specs.FlatTree.{FlatTree, HasMultiplier, leaf_reached}
use Rattle.jxlm_tree.specs.SetTables.{stays}
use Rattle.jxlm_ma_tree.specs.Tree.{StandsAtLeaf, depth}
use Rattle.jxlm_ma_tree.specs.declared.leaf.Leaf.{Leaf}
use Rattle.jxlm_tree.specs.declared.leaf_sets.LeafSets.{LeafSets}

-- these are properties 0 to 15 of f
abbrev pub AreOwnOf : List ℤ → (ℕ → ℤ) → Type 0
AreOwnOf own f = (k : ℕ) → k < 16 → slice_index_or own k (pos 0) ≡ f k

-- the leaf is in the list
pub record IsListed (leaves : List Leaf) (l : Leaf) : Type 0 where
  pub place : ℕ
  pub within : place < length leaves
  pub leaf : l ≡ get_or leaves place l

-- the leaf is the first one that no table rules out
pub record IsFirst (sets : List ℕ) (leaves : List Leaf) (f : ℕ → ℤ) (l : Leaf) : Type 0 where
  pub place : ℕ
  pub within : place < 64
  pub left_over : stays sets f place ≡ true
  pub none_before : (i : ℕ) → i < place → stays sets f i ≡ false
  pub leaf : l ≡ get_or leaves place l

-- The first leaf that no table rules out is the one to which the tree leads, and each leaf is one of the tree. There
-- are no more tables than the tree is deep.
pub record AreSetsOf (t : FlatTree) (s : LeafSets) : Type 0 where
  pub leaf : (f : ℕ → ℤ) (l : Leaf) → IsFirst s.sets.items s.leaves.items f l → l ≡ leaf_reached t f
  pub stands : (l : Leaf) → IsListed s.leaves.items l → StandsAtLeaf t.tree l
  pub multiplier : (l : Leaf) → IsListed s.leaves.items l → HasMultiplier l
  pub deep : 7 ≤ depth t.tree
