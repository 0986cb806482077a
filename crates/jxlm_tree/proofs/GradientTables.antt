-- The table on property 9 of a tree that one serves.
use Rattle.std.proofs.Common.{◌≡◌, ℕ, ◌<◌, ◌≤◌, List, Option, None, Some, length, get_or, slice_index, refl, sym, ap, ◌∙◌, subst}
use Rattle.std.proofs.lemmas.List.{get_or_default}
use Rattle.std.proofs.lemmas.Option.{get_or_from_slice_get, slice_get-get_or}
use Rattle.std.specs.Global.{Vec}
use Rattle.std.specs.Option.{option_map}
use Rattle.std.specs.Prelude.{slice_get}
use Rattle.std.specs.Rc.{rc_value}
use Rattle.jxlm_tree.specs.ClusterTables.{Clusters, in_cluster}
use Rattle.jxlm_tree.specs.FlatTree.{FlatTree, flat_tree}
use Rattle.jxlm_tree.specs.Paths.{IsOnGradient, IsPlainGradient, TakesGradientTable}
use Rattle.jxlm_tree.specs.Steps.{leftmost, most_steps}
use Rattle.jxlm_ma_tree.specs.Tree.{Shape}
use Rattle.jxlm_tree.specs.Inner.Compiled.{IsCompiledFor}
use Rattle.jxlm_tree.specs.Inner.FlatNodes.{LeadsBelow}
use Rattle.jxlm_tree.specs.Inner.Tables.{IsTableAt, TableAt}
use Rattle.jxlm_tree.specs.declared.flat.CompiledTree.{CompiledTree}
use Rattle.jxlm_tree.specs.declared.flat.FlatNode.{FlatNode}
use Rattle.jxlm_tree.specs.declared.flat.FlatNode.TheVariants as node
use Rattle.jxlm_ma_tree.specs.declared.leaf.Leaf.{Leaf}
use Rattle.jxlm_tree.proofs.FlatForced.{Forced, forced, root-of_leaf}
use Rattle.jxlm_tree.proofs.FlatLooks.{read-at}
use Rattle.jxlm_tree.proofs.MostSteps.{table_steps, tabular, tabular-leaf}

-- a leaf that differs from such a one in the cluster alone adds nothing either
plain_again : (l m : Leaf) (a b : ℕ) → in_cluster a l ≡ in_cluster b m → IsPlainGradient m → IsPlainGradient l
plain_again l m a b same plain =
    (ap (λ (k : Leaf). k.predictor) same ∙ plain.0, (ap (λ (k : Leaf). k.offset) same ∙ plain.1.0, ap (λ (k : Leaf). k.multiplier) same ∙ plain.1.1))

-- the table at a root that has to be one is on property 9, for the gradient
pub record HasGradientTable (o : Option Clusters) : Type 0 where
  pub table : Clusters
  pub found : o ≡ Some table
  pub gradient : IsOnGradient table

at_root : (nodes : List FlatNode) (root : ℕ) (n : FlatNode) (m : Leaf) (o : Option Clusters) → (f : Forced nodes n 9 m) → slice_get nodes root ≡ Some n → 0 < length f.entries.items → IsPlainGradient m →
    TableAt nodes root o → HasGradientTable o
at_root nodes root n m None f found some plain at =
    absurd (at f.property f.base f.entries m f.cluster (found ∙ ap (λ (z : FlatNode). Some z) f.table) f.lead)
at_root nodes root n m (Some l) f found some plain at =
    let both : Some (node.Table l.property l.base at.entries) ≡ Some (node.Table f.property f.base f.entries) = sym at.table ∙ found ∙ ap (λ (z : FlatNode). Some z) f.table in
    let property : l.property ≡ f.property = cc in
    let entries : at.entries ≡ f.entries = cc in
    let mine = at.leads 0 (subst (λ (es : Vec ℕ). 0 < length es.items) (sym entries) some) in
    let place = ap (λ (es : Vec ℕ). slice_index es.items 0) entries in
    let theirs = f.lead 0 some in
    let leaves : in_cluster (slice_index l.clusters 0) l.leaf ≡ in_cluster (f.cluster 0) m = cc in
    record { table = l; found = refl; gradient = (property ∙ f.on, plain_again l.leaf m (slice_index l.clusters 0) (f.cluster 0) leaves plain) }

-- where the tree takes one, it is kept
pub kept-table : (t : Shape Leaf) (channel stream earlier : ℕ) (v : FlatTree) (d e : CompiledTree) → IsCompiledFor t channel stream earlier e → d ≡ e → flat_tree t channel stream earlier ≡ v → TakesGradientTable v.tree →
    HasGradientTable (option_map rc_value d.table)
kept-table t channel stream earlier v d e c is same takes =
    let here : TakesGradientTable t = subst (λ (u : FlatTree). TakesGradientTable u.tree) (sym same) takes in
    let n : FlatNode = get_or e.nodes.items e.root (node.Leaf (leftmost t)) in
    let read = slice_get-get_or e.nodes.items e.root (node.Leaf (leftmost t)) c.tree.rooted in
    let at : n ≡ get_or e.nodes.items e.root n = get_or_default e.nodes.items e.root (node.Leaf (leftmost t)) n c.tree.rooted in
    let f = subst (Forced e.nodes.items n 9) (tabular-leaf 9 t here.0) (forced t channel stream earlier e.root e.prev_channels_named 9 e.nodes.items e.need_self_correcting n c.tree at (tabular 9 t here.0)) in
    let r = read-at e.nodes.items e.root n c.tree.rooted at c.tree.sound in
    let below = subst (LeadsBelow e.root) f.table r.below in
    subst (λ (u : CompiledTree). HasGradientTable (option_map rc_value u.table)) (sym is)
    (at_root e.nodes.items e.root n (leftmost t) (option_map rc_value e.table) f read below.0.0 here.1 c.table)

-- and a tree that has one takes a step
pub table-step : (t : Shape Leaf) (channel stream earlier : ℕ) (v : FlatTree) (d e : CompiledTree) (l : Clusters) → IsCompiledFor t channel stream earlier e → d ≡ e → option_map rc_value d.table ≡ Some l →
    flat_tree t channel stream earlier ≡ v → 1 ≤ most_steps v.tree
table-step t channel stream earlier v d e l c is found same =
    let at : IsTableAt e.nodes.items e.root l = subst (TableAt e.nodes.items e.root) (sym (ap (λ (u : CompiledTree). option_map rc_value u.table) is) ∙ found) c.table in
    let n : FlatNode = node.Table l.property l.base at.entries in
    let here = sym (get_or_from_slice_get e.nodes.items e.root n n at.table) in
    subst (λ (u : FlatTree). 1 ≤ most_steps u.tree) same (table_steps t (λ k only. let x = root-of_leaf t channel stream earlier e.root e.prev_channels_named e.nodes.items e.need_self_correcting n k c.tree here only in let is = x.1 in cc))
