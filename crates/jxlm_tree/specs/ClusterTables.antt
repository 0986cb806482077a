-- Tables of clusters.
use Rattle.std.specs.Coded.{Coded, code_by, coded×, coded_list, coded_ℕ, coded_ℤ}
use Rattle.std.specs.Prelude.{◌≡◌, ℕ, ◌-◌, min, ℤ, ◌-ℤ◌, int_lt, unsigned_abs, if◌then◌else◌, List, length, slice_index, refl}
use Rattle.jxlm_tree.specs.FlatTree.{FlatTree, HasMultiplier, leaf_reached}
use Rattle.jxlm_tree.specs.ShortTrees.{Fits}
use Rattle.jxlm_ma_tree.specs.Tree.{AllLeaves, Shape, StandsAtLeaf}
use Rattle.jxlm_ma_tree.specs.declared.leaf.Leaf.{Leaf}

-- a table of clusters by a property: its base, the clusters of its entries, and what all leaves agree in
pub record Clusters : Type 0 where
  pub property : ℕ
  pub base : ℤ
  pub clusters : List ℕ
  pub leaf : Leaf

abbrev pub clusters_of : ℕ → ℤ → List ℕ → Leaf → Clusters
clusters_of p b cs l = record { property = p; base = b; clusters = cs; leaf = l }

abbrev pub coded_clusters : Coded Leaf → Coded Clusters
coded_clusters l =
    code_by ((ℕ × ℤ) × (List ℕ × Leaf)) (coded× (coded× coded_ℕ coded_ℤ) (coded× (coded_list coded_ℕ) l)) (λ t. ((t.property, t.base), (t.clusters, t.leaf))) (λ p. clusters_of p.0.0 p.0.1 p.1.0 p.1.1) (λ _. refl)

-- the entry of a table that serves x: the first up to the base, then one for each value, and the last for all beyond
abbrev pub slot : ℤ → ℕ → ℤ → ℕ
slot base last x = if int_lt base x then min (unsigned_abs (x -ℤ base)) last else 0

-- the same leaf in another cluster
abbrev pub in_cluster : ℕ → Leaf → Leaf
in_cluster c l = record { cluster = c; predictor = l.predictor; offset = l.offset; multiplier = l.multiplier }

-- the leaves of the tree agree in all but the cluster
abbrev pub LeavesAgree : Shape Leaf → Type 0
LeavesAgree t = (l : Leaf) × AllLeaves (λ m. m ≡ in_cluster m.cluster l) t

-- the leaf of a table where its property is x
abbrev pub table_leaf : Clusters → ℤ → Leaf
table_leaf t x = in_cluster (slice_index t.clusters (slot t.base (length t.clusters - 1) x)) t.leaf

-- every walk of the tree leads where the table says
pub record IsTableOf (t : FlatTree) (c : Clusters) : Type 0 where
  pub leaf : (f : ℕ → ℤ) → Fits (λ k. f c.property) → leaf_reached t f ≡ table_leaf c (f c.property)
  pub stands : (x : ℤ) → Fits (λ k. x) → StandsAtLeaf t.tree (table_leaf c x)
  pub multiplier : HasMultiplier c.leaf
