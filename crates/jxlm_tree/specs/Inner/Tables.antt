-- Tables of clusters that stand for the root of a compiled tree.
use Rattle.std.specs.Global.{Vec}
use Rattle.std.specs.Prelude.{◌≡◌, ℕ, ◌<◌, ◌==◌, ◌||◌, false, ℤ, List, length, slice_get, slice_index, Option, Some, None}
use Rattle.jxlm_tree.specs.ClusterTables.{Clusters, in_cluster}
use Rattle.jxlm_ma_tree.specs.declared.leaf.Leaf.{Leaf}
use Rattle.jxlm_tree.specs.declared.flat.FlatNode.{FlatNode}
use Rattle.jxlm_tree.specs.declared.flat.FlatNode.TheVariants as node
use Rattle.jxlm_tree.specs.Steps.{plain_gradient}
use Rattle.jxlm_tree.specs.declared.paths.Path.{Path}
use Rattle.jxlm_tree.specs.declared.paths.Path.TheVariants as path
use Rattle.jxlm_predictor.specs.Predictions.{number_of}

-- the first n entries lead to this leaf, each in its own cluster
abbrev pub LeadTo : List FlatNode → List ℕ → ℕ → Leaf → (ℕ → ℕ) → Type 0
LeadTo nodes entries n l cluster =
    (j : ℕ) → j < n → slice_get nodes (slice_index entries j) ≡ Some (node.Leaf (in_cluster (cluster j) l))

-- the clusters in which all entries lead to this leaf, where they do
abbrev pub AreClusters : List FlatNode → List ℕ → Leaf → Option (Vec ℕ) → Type 0
AreClusters nodes entries l (Some clusters) =
    (length clusters.items ≡ length entries) × LeadTo nodes entries (length entries) l (slice_index clusters.items)
AreClusters nodes entries l None = (cluster : ℕ → ℕ) → LeadTo nodes entries (length entries) l cluster → ⊥

-- the node is a table whose entries lead where the table of clusters says
pub record IsTableAt (nodes : List FlatNode) (root : ℕ) (t : Clusters) : Type 0 where
  pub entries : Vec ℕ
  pub table : slice_get nodes root ≡ Some (node.Table t.property t.base entries)
  pub length_is : length t.clusters ≡ length entries.items
  pub leads : LeadTo nodes entries.items (length entries.items) t.leaf (slice_index t.clusters)

-- the table of clusters of a node, where it has one
abbrev pub TableAt : List FlatNode → ℕ → Option Clusters → Type 0
TableAt nodes root (Some t) = IsTableAt nodes root t
TableAt nodes root None =
    (property : ℕ) (base : ℤ) (entries : Vec ℕ) (l : Leaf) (cluster : ℕ → ℕ) → slice_get nodes root ≡ Some (node.Table property base entries) → LeadTo nodes entries.items (length entries.items) l cluster → ⊥

-- the path of a channel that has this leaf only
abbrev pub IsPathOfLeaf : Leaf → Path → Type 0
IsPathOfLeaf l (path.Constant k) = k ≡ l
IsPathOfLeaf l (path.Zero k) = k ≡ l
IsPathOfLeaf l (path.Gradient k) = k ≡ l
IsPathOfLeaf l (path.Runs k) = k ≡ l
IsPathOfLeaf l (path.Clusters c) = ⊥
IsPathOfLeaf l (path.GradientClusters c) = ⊥
IsPathOfLeaf l path.Tree = (number_of l.predictor == 0 || plain_gradient l) ≡ false

-- the path of a channel that has this table
abbrev pub IsPathOfTable : Clusters → Path → Type 0
IsPathOfTable t (path.Constant k) = ⊥
IsPathOfTable t (path.Zero k) = ⊥
IsPathOfTable t (path.Gradient k) = ⊥
IsPathOfTable t (path.Runs k) = ⊥
IsPathOfTable t (path.Clusters c) = c.now ≡ t
IsPathOfTable t (path.GradientClusters c) = c.now ≡ t
IsPathOfTable t path.Tree = ⊥
