-- How many steps a sample takes on the path that is found.
use Rattle.std.proofs.Common.{◌≡◌, ℕ, ◌+◌, ◌<◌, ◌≤◌, Some, None, false, length, get_or, refl, sym, ap, ◌∙◌, subst, arith}
use Rattle.std.proofs.lemmas.Option.{slice_get_read}
use Rattle.std.specs.Option.{option_map}
use Rattle.std.specs.Prelude.{◌==◌, ◌||◌}
use Rattle.std.specs.Rc.{rc_value}
use Rattle.jxlm_tree.specs.FlatTree.{FlatTree, flat_tree}
use Rattle.jxlm_tree.specs.ClusterTables.{Clusters}
use Rattle.jxlm_tree.specs.Paths.{steps_on}
use Rattle.jxlm_tree.specs.Steps.{most_steps, plain_gradient}
use Rattle.jxlm_ma_tree.specs.Tree.{Shape, StandsAtLeaf, leaf, decision, depth}
use Rattle.jxlm_tree.specs.Inner.Compiled.{IsCompiledFor}
use Rattle.jxlm_tree.specs.Inner.Tables.{IsPathOfLeaf, IsPathOfTable, TableAt}
use Rattle.jxlm_tree.specs.declared.flat.CompiledTree.{CompiledTree}
use Rattle.jxlm_ma_tree.specs.declared.leaf.Leaf.{Leaf}
use Rattle.jxlm_tree.specs.declared.flat.FlatNode.{FlatNode}
use Rattle.jxlm_tree.specs.declared.flat.FlatNode.TheVariants as node
use Rattle.jxlm_tree.specs.declared.paths.Path.{Path}
use Rattle.jxlm_tree.specs.declared.paths.Path.TheVariants as path
use Rattle.jxlm_tree.proofs.FlatForced.{forced, root-of_leaf}
use Rattle.jxlm_tree.proofs.FlatPaths.{leaf-here, root-at}
use Rattle.jxlm_tree.proofs.MostSteps.{table_steps, tabular, tree_steps}
use Rattle.jxlm_predictor.specs.Predictions.{number_of}

steps-leaf : (t : Shape Leaf) (l : Leaf) (p : Path) → IsPathOfLeaf l p → ((number_of l.predictor == 0 || plain_gradient l) ≡ false → depth t + 1 ≤ most_steps t) → steps_on p t ≤ most_steps t
steps-leaf t l (path.Constant k) is h = omega arith
steps-leaf t l (path.Zero k) is h = omega arith
steps-leaf t l (path.Gradient k) is h = omega arith
steps-leaf t l (path.Runs k) is h = omega arith
steps-leaf t l (path.Clusters c) is h = absurd is
steps-leaf t l (path.GradientClusters c) is h = absurd is
steps-leaf t l path.Tree is h = h is

steps-table : (t : Shape Leaf) (c : Clusters) (p : Path) → IsPathOfTable c p → 1 ≤ most_steps t → steps_on p t ≤ most_steps t
steps-table t c (path.Constant k) is h = absurd is
steps-table t c (path.Zero k) is h = absurd is
steps-table t c (path.Gradient k) is h = absurd is
steps-table t c (path.Runs k) is h = absurd is
steps-table t c (path.Clusters d) is h = h
steps-table t c (path.GradientClusters d) is h = h
steps-table t c path.Tree is h = absurd is

pub leaf-steps : (t : Shape Leaf) (channel stream earlier : ℕ) (v : FlatTree) (d1 d2 e : CompiledTree) (n : FlatNode) (l : Leaf) (p : Path) → IsCompiledFor t channel stream earlier e → d1 ≡ e → d2 ≡ e → n ≡ get_or d1.nodes.items d2.root n →
    n ≡ node.Leaf l → flat_tree t channel stream earlier ≡ v → IsPathOfLeaf l p → steps_on p v.tree ≤ most_steps v.tree
leaf-steps t channel stream earlier v d1 d2 e n l p c is1 is2 at is same on =
    let here = root-at d1 d2 e n is1 is2 at in
    let of = leaf-here t channel stream earlier (flat_tree t channel stream earlier) d1 d2 e n l c is1 is2 at is refl in
    subst (λ (u : FlatTree). steps_on p u.tree ≤ most_steps u.tree) same
    (steps-leaf t l p on (λ slow. tree_steps t
    (λ m only. subst (λ (k : Leaf). (number_of k.predictor == 0 || plain_gradient k) ≡ false) (subst (λ u. StandsAtLeaf u l) only of.stands) slow)
    (λ q tests. let f = forced t channel stream earlier e.root e.prev_channels_named q e.nodes.items e.need_self_correcting n c.tree here (tabular q t tests) in let table = f.table in cc)))

never-leaf : (t : Shape Leaf) (channel stream earlier : ℕ) (e : CompiledTree) (n : FlatNode) → IsCompiledFor t channel stream earlier e → n ≡ get_or e.nodes.items e.root n → ((x : Leaf) → n ≡ node.Leaf x → ⊥) → (l : Leaf) → t ≡ leaf l → ⊥
never-leaf t channel stream earlier e n c here never l is =
    let x = root-of_leaf t channel stream earlier e.root e.prev_channels_named e.nodes.items e.need_self_correcting n l c.tree here is in
    never x.0 x.1

-- a tree that is no leaf has a decision
deep : (t : Shape Leaf) → ((l : Leaf) → t ≡ leaf l → ⊥) → 0 < depth t
deep (leaf l) never = absurd (never l refl)
deep (decision p value left right) never = omega arith

-- where the root is no leaf, the tree has a decision
pub decision-here : (t : Shape Leaf) (channel stream earlier : ℕ) (v : FlatTree) (d1 d2 e : CompiledTree) (n : FlatNode) → IsCompiledFor t channel stream earlier e → d1 ≡ e → d2 ≡ e → n ≡ get_or d1.nodes.items d2.root n →
    ((x : Leaf) → n ≡ node.Leaf x → ⊥) → flat_tree t channel stream earlier ≡ v → 0 < depth v.tree
decision-here t channel stream earlier v d1 d2 e n c is1 is2 at never same =
    subst (λ (u : FlatTree). 0 < depth u.tree) same (deep t (never-leaf t channel stream earlier e n c (root-at d1 d2 e n is1 is2 at) never))

pub table-steps : (t : Shape Leaf) (channel stream earlier : ℕ) (v : FlatTree) (d1 d2 e : CompiledTree) (n : FlatNode) (k : Clusters) (p : Path) → IsCompiledFor t channel stream earlier e → d1 ≡ e → d2 ≡ e →
    n ≡ get_or d1.nodes.items d2.root n → ((x : Leaf) → n ≡ node.Leaf x → ⊥) → flat_tree t channel stream earlier ≡ v → IsPathOfTable k p → steps_on p v.tree ≤ most_steps v.tree
table-steps t channel stream earlier v d1 d2 e n k p c is1 is2 at never same on =
    subst (λ (u : FlatTree). steps_on p u.tree ≤ most_steps u.tree) same (steps-table t k p on (table_steps t (never-leaf t channel stream earlier e n c (root-at d1 d2 e n is1 is2 at) never)))

pub tree-steps : (t : Shape Leaf) (channel stream earlier : ℕ) (v : FlatTree) (d1 d2 d3 e : CompiledTree) (n : FlatNode) → IsCompiledFor t channel stream earlier e → d1 ≡ e → d2 ≡ e → d3 ≡ e → n ≡ get_or d1.nodes.items d2.root n →
    ((x : Leaf) → n ≡ node.Leaf x → ⊥) → option_map rc_value d3.table ≡ None → flat_tree t channel stream earlier ≡ v → depth v.tree + 1 ≤ most_steps v.tree
tree-steps t channel stream earlier v d1 d2 d3 e n c is1 is2 is3 at never none same =
    let here = root-at d1 d2 e n is1 is2 at in
    let without : TableAt e.nodes.items e.root None = subst (TableAt e.nodes.items e.root) (sym (ap (λ (u : CompiledTree). option_map rc_value u.table) is3) ∙ none) c.table in
    let found = slice_get_read e.nodes.items (length e.nodes.items) e.root n refl c.tree.rooted here in
    subst (λ (u : FlatTree). depth u.tree + 1 ≤ most_steps u.tree) same
    (tree_steps t (λ m only. absurd (never-leaf t channel stream earlier e n c here never m only))
    (λ q tests.
    let h = tabular q t tests in
    let f = forced t channel stream earlier e.root e.prev_channels_named q e.nodes.items e.need_self_correcting n c.tree here h in
    without f.property f.base f.entries h.leaf f.cluster (found ∙ ap (λ (z : FlatNode). Some z) f.table) f.lead))
