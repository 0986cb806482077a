-- What the root of a compiled tree tells of the tree.
use Rattle.std.proofs.Common.{◌≡◌, ℕ, ℤ, ◌-◌, ◌<◌, pos, List, [], ◌∷◌, ◌++◌, Some, length, reverse, get_or, slice_index, refl, sym, ap, ◌∙◌, subst, arith}
use Rattle.std.proofs.lemmas.Int.{ints}
use Rattle.std.proofs.lemmas.Option.{get_or_from_slice_get, slice_get_within}
use Rattle.std.specs.Option.{option_map}
use Rattle.std.specs.Prelude.{slice_get, Bool}
use Rattle.std.specs.Rc.{rc_value}
use Rattle.jxlm_tree.specs.FlatTree.{FlatTree, HasMultiplier, flat_tree}
use Rattle.jxlm_tree.specs.ClusterTables.{Clusters, IsTableOf, slot, table_leaf}
use Rattle.jxlm_tree.specs.Paths.{Gives, IsLeafOf}
use Rattle.jxlm_tree.specs.ShortTrees.{Fits}
use Rattle.jxlm_ma_tree.specs.Tree.{Shape, StandsAtLeaf}
use Rattle.jxlm_tree.specs.Inner.Compiled.{IsCompiled, IsCompiledFor, known_at}
use Rattle.jxlm_tree.specs.Inner.FlatNodes.{Answers, AreOf, Reached, alike, heard, onward, reached, says}
use Rattle.jxlm_ma_tree.specs.Pruned.{pruned}
use Rattle.jxlm_tree.specs.Inner.Tables.{IsPathOfLeaf, IsPathOfTable, IsTableAt, TableAt}
use Rattle.jxlm_tree.specs.declared.flat.CompiledTree.{CompiledTree}
use Rattle.jxlm_ma_tree.specs.declared.leaf.Leaf.{Leaf}
use Rattle.jxlm_tree.specs.declared.flat.FlatNode.{FlatNode}
use Rattle.jxlm_tree.specs.declared.flat.FlatNode.TheVariants as node
use Rattle.jxlm_tree.specs.declared.paths.Path.{Path}
use Rattle.jxlm_tree.specs.declared.paths.Path.TheVariants as path
use Rattle.jxlm_tree.proofs.FlatLooks.{Read, goes, read-at, slot-within}
use Rattle.jxlm_tree.proofs.FlatSteps.{walk-pruned}
use Rattle.jxlm_tree.proofs.FlatTrees.{standing_leaf}
use Rattle.jxlm_tree.proofs.FlatWalks.{pruned-stands}

-- one number for all properties
abbrev pub all_at : ℤ → ℕ → Answers
all_at x i = alike (λ k. x)

-- a walk that comes to a leaf ends there
pub ends-at : (nodes : List FlatNode) (i : ℕ) (n : FlatNode) (l : Leaf) (a : ℕ → Answers) → Read nodes i n → n ≡ node.Leaf l → reached nodes i a ≡ record { leaf = l; looks = 1; heard = [] }
ends-at nodes i n l a r is = r.walks a ∙ ap (λ m. onward (says m (a i)) (λ j. reached nodes j a)) is

pub zero_fits : Fits (λ k. pos 0)
zero_fits = record { low = λ k. omega (arith, ints); high = λ k. omega (arith, ints) }

-- where the root is a leaf, every walk leads to it
pub leaf-root : (t : Shape Leaf) (channel stream earlier root named : ℕ) (nodes : List FlatNode) (needs : Bool) (n : FlatNode) (l : Leaf) → IsCompiled t (known_at channel stream earlier) nodes root needs named →
    n ≡ get_or nodes root n → n ≡ node.Leaf l → IsLeafOf (flat_tree t channel stream earlier) l
leaf-root t channel stream earlier root named nodes needs n l c at is =
    let r = read-at nodes root n c.rooted at c.sound in
    let end = ends-at (reverse nodes) root n l (all_at (pos 0)) r is in
    let fit = λ (i : ℕ). zero_fits in
    let leaf_is : (reached (reverse nodes) root (all_at (pos 0))).leaf ≡ l = ap (λ (r : Reached). r.leaf) end in
    let stands : StandsAtLeaf t l = pruned-stands (known_at channel stream earlier) t l (subst (StandsAtLeaf (pruned (known_at channel stream earlier) t)) leaf_is (c.serves.stands (all_at (pos 0)) fit)) in
    record {
      leaf = λ f. sym (sym leaf_is ∙ c.serves.leads (all_at (pos 0)) f fit (subst (λ (r : Reached). AreOf f r.heard) (sym end) tt) ∙ walk-pruned t channel stream earlier f);
      stands = stands;
      multiplier = standing_leaf HasMultiplier t l c.multipliers stands;
    }

-- the walk from a table of leaves, where its property is x
pub record TableWalk (nodes : List FlatNode) (root : ℕ) (t : Clusters) (x : ℤ) : Type 0 where
  pub leaf : (reached nodes root (all_at x)).leaf ≡ table_leaf t x
  pub heard : (reached nodes root (all_at x)).heard ≡ heard t.property x ∷ []

table-walk : (t : Shape Leaf) (channel stream earlier root named : ℕ) (nodes : List FlatNode) (needs : Bool) (c : Clusters) (x : ℤ) → IsCompiled t (known_at channel stream earlier) nodes root needs named → IsTableAt nodes root c →
    TableWalk (reverse nodes) root c x
table-walk t channel stream earlier root named nodes needs c x compiled at =
    let n : FlatNode = node.Table c.property c.base at.entries in
    let r = read-at nodes root n compiled.rooted (sym (get_or_from_slice_get nodes root n n at.table)) compiled.sound in
    let last : length at.entries.items ≡ length c.clusters = sym at.length_is in
    let j = slot c.base (length at.entries.items - 1) x in
    let some : 0 < length at.entries.items = r.below.0.0 in
    let place = slice_index at.entries.items j in
    let m : FlatNode = node.Leaf (table_leaf c x) in
    let lead : slice_get nodes place ≡ Some m = at.leads j (slot-within c.base x (length at.entries.items) some) ∙ ap (λ k. Some (node.Leaf (record { cluster = slice_index c.clusters (slot c.base (k - 1) x); predictor = c.leaf.predictor; offset = c.leaf.offset; multiplier = c.leaf.multiplier }))) last in
    let rm = read-at nodes place m (slice_get_within nodes place m lead) (sym (get_or_from_slice_get nodes place m m lead)) compiled.sound in
    let end = ends-at (reverse nodes) place m (table_leaf c x) (all_at x) rm refl in
    let step = goes (reverse nodes) root place (heard c.property x ∷ []) n (all_at x) r refl in
    record {
      leaf = step.leaf ∙ ap (λ (r : Reached). r.leaf) end;
      heard = step.heard ∙ ap (λ (r : Reached). (heard c.property x ∷ []) ++ r.heard) end;
    }

-- where the root is a table of leaves that agree, every walk leads where its table says
pub table-root : (t : Shape Leaf) (channel stream earlier root named : ℕ) (nodes : List FlatNode) (needs : Bool) (c : Clusters) → IsCompiled t (known_at channel stream earlier) nodes root needs named → IsTableAt nodes root c →
    IsTableOf (flat_tree t channel stream earlier) c
table-root t channel stream earlier root named nodes needs c compiled at =
    let stands : (x : ℤ) → Fits (λ k. x) → StandsAtLeaf t (table_leaf c x) = λ x fits.
    pruned-stands (known_at channel stream earlier) t (table_leaf c x) (subst (StandsAtLeaf (pruned (known_at channel stream earlier) t)) (table-walk t channel stream earlier root named nodes needs c x compiled at).leaf (compiled.serves.stands (all_at x) (λ i. fits))) in
    record {
      leaf = λ f fits.
          let x : ℤ = f c.property in
          let w = table-walk t channel stream earlier root named nodes needs c x compiled at in
          sym (sym w.leaf ∙ compiled.serves.leads (all_at x) f (λ i. fits) (subst (AreOf f) (sym w.heard) (refl, tt)) ∙ walk-pruned t channel stream earlier f);
      stands = stands;
      multiplier = standing_leaf HasMultiplier t (table_leaf c (pos 0)) compiled.multipliers (stands (pos 0) zero_fits);
    }

-- what the paths of a leaf and of a table hand
pub gives-leaf : (t : FlatTree) (l : Leaf) (p : Path) → IsPathOfLeaf l p → IsLeafOf t l → Gives t p
gives-leaf t l (path.Constant k) is of = subst (IsLeafOf t) (sym is) of
gives-leaf t l (path.Zero k) is of = subst (IsLeafOf t) (sym is) of
gives-leaf t l (path.Gradient k) is of = subst (IsLeafOf t) (sym is) of
gives-leaf t l (path.Runs k) is of = subst (IsLeafOf t) (sym is) of
gives-leaf t l (path.Clusters c) is of = absurd is
gives-leaf t l (path.GradientClusters c) is of = absurd is
gives-leaf t l path.Tree is of = tt

pub gives-table : (t : FlatTree) (c : Clusters) (p : Path) → IsPathOfTable c p → IsTableOf t c → Gives t p
gives-table t c (path.Constant k) is of = absurd is
gives-table t c (path.Zero k) is of = absurd is
gives-table t c (path.Gradient k) is of = absurd is
gives-table t c (path.Runs k) is of = absurd is
gives-table t c (path.Clusters d) is of = subst (IsTableOf t) (sym is) of
gives-table t c (path.GradientClusters d) is of = subst (IsTableOf t) (sym is) of
gives-table t c path.Tree is of = absurd is

-- the same by what the program borrows
pub root-at : (d1 d2 e : CompiledTree) (n : FlatNode) → d1 ≡ e → d2 ≡ e → n ≡ get_or d1.nodes.items d2.root n → n ≡ get_or e.nodes.items e.root n
root-at d1 d2 e n is1 is2 at = at ∙ ap (λ (u : CompiledTree). get_or u.nodes.items d2.root n) is1 ∙ ap (λ (u : CompiledTree). get_or e.nodes.items u.root n) is2

pub leaf-here : (t : Shape Leaf) (channel stream earlier : ℕ) (v : FlatTree) (d1 d2 e : CompiledTree) (n : FlatNode) (l : Leaf) → IsCompiledFor t channel stream earlier e → d1 ≡ e → d2 ≡ e → n ≡ get_or d1.nodes.items d2.root n → n ≡ node.Leaf l →
    flat_tree t channel stream earlier ≡ v → IsLeafOf v l
leaf-here t channel stream earlier v d1 d2 e n l c is1 is2 at is same =
    subst (λ u. IsLeafOf u l) same (leaf-root t channel stream earlier e.root e.prev_channels_named e.nodes.items e.need_self_correcting n l c.tree (root-at d1 d2 e n is1 is2 at) is)

pub table-here : (t : Shape Leaf) (channel stream earlier : ℕ) (v : FlatTree) (d e : CompiledTree) (l : Clusters) → IsCompiledFor t channel stream earlier e → d ≡ e → option_map rc_value d.table ≡ Some l → flat_tree t channel stream earlier ≡ v → IsTableOf v l
table-here t channel stream earlier v d e l c is found same =
    let at : IsTableAt e.nodes.items e.root l = subst (TableAt e.nodes.items e.root) (sym (ap (λ (u : CompiledTree). option_map rc_value u.table) is) ∙ found) c.table in
    subst (λ u. IsTableOf u l) same (table-root t channel stream earlier e.root e.prev_channels_named e.nodes.items e.need_self_correcting l c.tree at)
