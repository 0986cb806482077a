-- Which leaves the decisions of a tree rule out, and the sets that are made of them.
use Rattle.std.specs.Prelude.{◌≡◌, ℕ, ◌+◌, ◌<◌, ◌≤◌, ◌&&◌, ◌||◌, not, nat_lt, Bool, false, ℤ, pos, neg_ℤ, int_lt, List, length, slice_index, slice_index_or}
use Rattle.jxlm_tree.specs.ClusterTables.{slot}
pub use Rattle.jxlm_tree.specs.SmallTrees.{has_table, is_in_range, is_served, leaves_of}
use Rattle.jxlm_tree.specs.SetTables.{stays}
use Rattle.jxlm_ma_tree.specs.Tree.{Shape, leaf, decision}
use Rattle.jxlm_ma_tree.specs.declared.leaf.Leaf.{Leaf}
use Rattle.jxlm_tree.specs.declared.leaf_sets.LeafSets.{LeafSets}

-- leaf i is one of those from `first` to before `end`
abbrev pub is_within : ℕ → ℕ → ℕ → Bool
is_within first end i = not (nat_lt i first) && nat_lt i end

-- a value that has an entry of its own
abbrev pub is_near : ℤ → Bool
is_near v = not (int_lt v (neg_ℤ (pos 1024))) && int_lt v (pos 1024)

-- these are the entries of the properties of f, one for each table
abbrev pub AreEntriesOf : List ℕ → (ℕ → ℤ) → Type 0
AreEntriesOf entries f = (k : ℕ) → k < 7 → slice_index entries k ≡ slot (neg_ℤ (pos 1024)) 2047 (f (9 + k))

-- these are properties 9 to 15 of f
abbrev pub AreValuesOf : List ℤ → (ℕ → ℤ) → Type 0
AreValuesOf values f = (k : ℕ) → k < 7 → slice_index_or values k (pos 0) ≡ f (9 + k)

-- a decision of the tree, before whose leaves there are `first` others, rules out leaf i: it is answered to the right,
-- and the leaf is on its left side
abbrev pub rules_out : ℕ → Shape Leaf → (ℕ → ℤ) → ℕ → Bool
rules_out first (leaf l) f i = false
rules_out first (decision p v left right) f i =
    (not (int_lt v (f p)) && is_within first (first + length (leaves_of left)) i)
    || (rules_out first left f i || rules_out (first + length (leaves_of left)) right f i)

-- the sets are those of the tree's leaves, and there are no more tables than the depth
pub record AreOf (t : Shape Leaf) (depth : ℕ) (s : LeafSets) : Type 0 where
  pub leaves : s.leaves.items ≡ leaves_of t
  pub few : length s.leaves.items ≤ 64
  pub stays : (f : ℕ → ℤ) (i : ℕ) → i < 64 → stays s.sets.items f i ≡ not (rules_out 0 t f i)
  pub deep : 7 ≤ depth
