-- What tables of clusters stand for.
use Rattle.std.proofs.Common.{◌≡◌, ℕ, ℤ, ◌<◌, List, Option, None, Some, length, reverse, get_or, slice_index, refl, sym, ap, ◌∙◌, subst, arith}
use Rattle.std.proofs.lemmas.List.{get_or_default}
use Rattle.std.proofs.lemmas.Option.{slice_get_read}
use Rattle.std.specs.Global.{Vec as OwnVec}
use Rattle.std.specs.Prelude.{slice_get}
use Rattle.jxlm_tree.specs.FlatTree.{FlatTree, leaf_reached}
use Rattle.jxlm_tree.specs.ClusterTables.{Clusters, IsTableOf, in_cluster, table_leaf}
use Rattle.jxlm_tree.specs.ShortTrees.{Fits}
use Rattle.jxlm_tree.specs.Inner.FlatNodes.{IsSound, LeadsBelow}
use Rattle.jxlm_tree.specs.Inner.Tables.{AreClusters, LeadTo}
use Rattle.jxlm_ma_tree.specs.declared.leaf.Leaf.{Leaf}
use Rattle.jxlm_tree.specs.declared.flat.FlatNode.{FlatNode}
use Rattle.jxlm_tree.specs.declared.flat.FlatNode.TheVariants as node
use Rattle.jxlm_tree.proofs.FlatLooks.{read-at}

-- a leaf with its numbers
abbrev pub leaf_with : ℕ → ℤ → Leaf → Leaf
leaf_with c o l = record { cluster = c; predictor = l.predictor; offset = o; multiplier = l.multiplier }

-- what was looked up is the leaf of the table
pub looked_up : (t : Clusters) (x : ℤ) (k : ℕ) (o : ℤ) → k ≡ (table_leaf t x).cluster → o ≡ t.leaf.offset → leaf_with k o t.leaf ≡ table_leaf t x
looked_up t x k o at_k at_o = ap (λ m. leaf_with m o t.leaf) at_k ∙ ap (λ m. leaf_with (table_leaf t x).cluster m t.leaf) at_o

-- which is the one that is reached
pub table-reaches : (t : FlatTree) (c : Clusters) (x : ℤ) (f : ℕ → ℤ) → IsTableOf t c → Fits (λ i. x) → x ≡ f c.property → table_leaf c x ≡ leaf_reached t f
table-reaches t c x f of fits is = ap (table_leaf c) is ∙ sym (of.leaf f (subst (λ z. Fits (λ i. z)) is fits))

-- a table has entries, and each leads to an older node
pub record Leads (nodes : List FlatNode) (entries : List ℕ) : Type 0 where
  pub some : 0 < length entries
  pub within : (j : ℕ) → j < length entries → slice_index entries j < length nodes

pub table-leads : (nodes : List FlatNode) (root p : ℕ) (base : ℤ) (entries : OwnVec ℕ) (n : FlatNode) → IsSound (reverse nodes) → root < length nodes → n ≡ get_or nodes root n → n ≡ node.Table p base entries →
    Leads nodes entries.items
table-leads nodes root p base entries n sound rooted is table =
    let r = read-at nodes root n rooted is sound in
    let below = subst (LeadsBelow root) table r.below in
    record { some = below.0.0; within = λ j h. let b = below.1 j h in omega arith }

-- the node at the first entry
pub first-within : (nodes : List FlatNode) (entries : List ℕ) (i : ℕ) → Leads nodes entries → i ≡ get_or entries 0 i → i < length nodes
first-within nodes entries i leads at_i = subst (λ k. k < length nodes) (get_or_default entries 0 0 i leads.some ∙ sym at_i) (leads.within 0 leads.some)

pub first-node : (nodes : List FlatNode) (entries : List ℕ) (i : ℕ) (m : FlatNode) → Leads nodes entries → i ≡ get_or entries 0 i → m ≡ get_or nodes i m → slice_get nodes (slice_index entries 0) ≡ Some m
first-node nodes entries i m leads at_i at_m =
    ap (slice_get nodes) (get_or_default entries 0 0 i leads.some ∙ sym at_i) ∙ slice_get_read nodes (length nodes) i m refl (first-within nodes entries i leads at_i) at_m

-- the node at an entry
pub entry-node : (nodes : List FlatNode) (entries : List ℕ) (n : ℕ) (m : FlatNode) → n < length entries → ((j : ℕ) → j < length entries → slice_index entries j < length nodes) → m ≡ get_or nodes (get_or entries n 0) m →
    slice_get nodes (slice_index entries n) ≡ Some m
entry-node nodes entries n m some within at_m = slice_get_read nodes (length nodes) (slice_index entries n) m refl (within n some) at_m

-- the clusters of the entries of a table, or that there are none
pub of_none : (nodes : List FlatNode) (entries : List ℕ) (l : Leaf) (o : Option (OwnVec ℕ)) → o ≡ None → AreClusters nodes entries l o → (cluster : ℕ → ℕ) → LeadTo nodes entries (length entries) l cluster → ⊥
of_none nodes entries l o is are = subst (AreClusters nodes entries l) is are

pub of_some : (nodes : List FlatNode) (entries : List ℕ) (l : Leaf) (o : Option (OwnVec ℕ)) (clusters : OwnVec ℕ) → o ≡ Some clusters → AreClusters nodes entries l o →
    (length clusters.items ≡ length entries) × LeadTo nodes entries (length entries) l (slice_index clusters.items)
of_some nodes entries l o clusters is are = subst (AreClusters nodes entries l) is are

-- a node is one table only
pub one_table : (nodes : List FlatNode) (root p q : ℕ) (a b : ℤ) (xs ys : OwnVec ℕ) (n : FlatNode) → root < length nodes → n ≡ get_or nodes root n → n ≡ node.Table p a xs →
    slice_get nodes root ≡ Some (node.Table q b ys) → xs ≡ ys
one_table nodes root p q a b xs ys n rooted is table other =
    let here = slice_get_read nodes (length nodes) root n refl rooted is in
    let same : node.Table p a xs ≡ node.Table q b ys = cc in
    cc

-- entries lead to a leaf that their first one leads to
pub lead-first : (nodes : List FlatNode) (entries : List ℕ) (n : ℕ) (first l : Leaf) (cluster : ℕ → ℕ) → 0 < n → slice_get nodes (slice_index entries 0) ≡ Some (node.Leaf first) → LeadTo nodes entries n l cluster →
    LeadTo nodes entries n first cluster
lead-first nodes entries n first l cluster some at_first lead j h =
    let at_l = lead 0 some in
    let is : first ≡ in_cluster (cluster 0) l = cc in
    lead j h ∙ ap (λ (x : Leaf). Some (node.Leaf (in_cluster (cluster j) x))) (sym is)
