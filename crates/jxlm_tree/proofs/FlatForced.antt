-- Trees whose roots become tables of leaves that agree.
use Rattle.std.proofs.Common.{◌≡◌, ℕ, ℤ, ◌-◌, ◌<◌, ◌≤◌, ◌+ℤ◌, pos, Bool, true, false, cond, List, ◌∷◌, Some, length, reverse, get_or, slice_index, refl, sym, ap, ◌∙◌, subst, arith}
use Rattle.std.proofs.lemmas.Bool.Decides.{Decides-eqb}
use Rattle.std.proofs.lemmas.List.{length-reverse, get_or-reverse, get_or_default}
use Rattle.std.proofs.lemmas.Option.{slice_get-get_or}
use Rattle.std.specs.Global.{Vec}
use Rattle.std.specs.Prelude.{int_lt}
use Rattle.jxlm_tree.specs.ClusterTables.{in_cluster}
use Rattle.jxlm_tree.specs.ShortTrees.{TestsOnly}
use Rattle.jxlm_ma_tree.specs.Tree.{AllLeaves, Shape, StandsAtLeaf, leaf, decision, depth}
use Rattle.jxlm_tree.specs.Inner.Compiled.{IsCompiled, known_at}
use Rattle.jxlm_tree.specs.Inner.FlatNodes.{Answers, Heard, IsSound, IsTable, IsTableOf, Reached, Says, Serves, go, onward, reached, says, side_says, stop}
use Rattle.jxlm_ma_tree.specs.Marked.{asks_for}
use Rattle.jxlm_tree.specs.Inner.Chosen.{chosen}
use Rattle.jxlm_tree.specs.Inner.Tables.{LeadTo}
use Rattle.jxlm_ma_tree.specs.declared.leaf.Leaf.{Leaf}
use Rattle.jxlm_tree.specs.declared.flat.FlatNode.{FlatNode}
use Rattle.jxlm_tree.specs.declared.flat.FlatNode.TheVariants as node
use Rattle.jxlm_tree.proofs.FlatLooks.{read-at, reached-some, says-below}
use Rattle.jxlm_tree.proofs.FlatNodes.{reached-older}
use Rattle.jxlm_tree.proofs.FlatPaths.{all_at, zero_fits}
use Rattle.jxlm_tree.proofs.FlatTrees.{standing_leaf}
use Rattle.jxlm_tree.proofs.FlatTwo.{same-pruned}
use Rattle.jxlm_tree.proofs.FlatWalks.{chosen-one, chosen-stands, pruned-depth}

-- a tree that a table serves: one property of the cell with near cuts, and leaves that agree
pub record Tabular (p : ℕ) (t : Shape Leaf) : Type 0 where
  pub from : 2 ≤ p
  pub to : p ≤ 15
  pub only : TestsOnly p t
  pub table : IsTable t
  pub leaf : Leaf
  pub agree : AllLeaves (λ m. m ≡ in_cluster m.cluster leaf) t

-- the newest node is the last
top-is : (nodes older : List FlatNode) (root : ℕ) (n top : FlatNode) → reverse nodes ≡ top ∷ older → root ≡ length older → n ≡ get_or nodes root n → n ≡ top
top-is nodes older root n top newest place at =
    let l = length-reverse nodes in
    let k = ap length newest in
    let back : get_or (reverse nodes) 0 n ≡ get_or nodes (length nodes - 1 - 0) n = get_or-reverse nodes 0 n (omega arith) in
    let last : root ≡ length nodes - 1 - 0 = omega arith in
    at ∙ ap (λ i. get_or nodes i n) last ∙ sym back ∙ ap (λ ns. get_or ns 0 n) newest

-- a walk of one look ends at once
ends-now : (s : Says) (g : ℕ → Reached) → (onward s g).looks ≡ 1 → ((j : ℕ) (hs : List Heard) → s ≡ go j hs → 1 ≤ (g j).looks) → (x : Leaf) × (s ≡ stop x)
ends-now (stop x) g one some = (x, refl)
ends-now (go j hs) g one some = let k = some j hs refl in absurd (omega arith)

stops-at : (n : FlatNode) (a : Answers) (x : Leaf) → says n a ≡ stop x → n ≡ node.Leaf x
stops-at (node.Leaf l) a x e = cc
stops-at (node.Table p base entries) a x e = cc
stops-at (node.Fused p v l r) a x e = either (int_lt v (a.first p)) e where
  either : (t : Bool) → cond t (side_says p (a.first p) l a.second) (side_says p (a.first p) r a.second) ≡ stop x → node.Fused p v l r ≡ node.Leaf x
  either true e = cc
  either false e = cc

-- a node that serves a leaf is one
pub record ServedLeaf (u : Shape Leaf) (m : FlatNode) : Type 0 where
  pub leaf : Leaf
  pub node_is : m ≡ node.Leaf leaf
  pub stands : StandsAtLeaf u leaf

served-leaf : (nodes older : List FlatNode) (top m : FlatNode) (i : ℕ) (u : Shape Leaf) → reverse nodes ≡ top ∷ older → IsSound (reverse nodes) → Serves older i u → depth u ≡ 0 → m ≡ get_or nodes i m → ServedLeaf u m
served-leaf nodes older top m i u newest sound s flat at =
    let a = all_at (pos 0) in
    let k = ap length newest in
    let l = length-reverse nodes in
    let w = s.within in
    let r = read-at nodes i m (omega arith) at sound in
    let same : reached (reverse nodes) i a ≡ reached older i a = ap (λ ns. reached ns i a) newest ∙ reached-older top older i a w in
    let here : onward (says m (a i)) (λ j. reached (reverse nodes) j a) ≡ reached older i a = sym (r.walks a) ∙ same in
    let one : (onward (says m (a i)) (λ j. reached (reverse nodes) j a)).looks ≡ 1 = ap (λ (x : Reached). x.looks) here ∙ (s.few a (λ q. zero_fits)).one flat in
    let end = ends-now (says m (a i)) (λ j. reached (reverse nodes) j a) one (λ j hs e. reached-some (reverse nodes) j a (let b = says-below i m (a i) j hs r.below e in omega arith)) in
    let leaf_is : end.0 ≡ (reached older i a).leaf = ap (λ (z : Says). (onward z (λ j. reached (reverse nodes) j a)).leaf) (sym end.1) ∙ ap (λ (x : Reached). x.leaf) here in
    record {
      leaf = end.0;
      node_is = stops-at m (a i) end.0 end.1;
      stands = subst (StandsAtLeaf u) (sym leaf_is) (s.stands a (λ q. zero_fits));
    }

asked-only : (q p : ℕ) (t : Shape Leaf) → asks_for q t ≡ true → TestsOnly p t → TestsOnly q t
asked-only q p (leaf l) e h = tt
asked-only q p (decision k v a b) e h =
    let is : k ≡ q = (Decides-eqb k q).0 e in
    subst (λ z. TestsOnly z (decision k v a b)) (sym h.0 ∙ is) h

asked-is : (q p : ℕ) (t : Shape Leaf) → asks_for q t ≡ true → TestsOnly p t → q ≡ p
asked-is q p (leaf l) e h = cc
asked-is q p (decision k v a b) e h = sym ((Decides-eqb k q).0 e) ∙ h.0

-- the root of such a tree is a table on its property, and its entries lead to one leaf
pub record Forced (nodes : List FlatNode) (n : FlatNode) (p : ℕ) (l : Leaf) : Type 0 where
  pub property : ℕ
  pub on : property ≡ p
  pub base : ℤ
  pub entries : Vec ℕ
  pub cluster : ℕ → ℕ
  pub table : n ≡ node.Table property base entries
  pub lead : LeadTo nodes entries.items (length entries.items) l cluster

cluster_at : FlatNode → ℕ
cluster_at (node.Leaf l) = l.cluster
cluster_at (node.Table p base entries) = 0
cluster_at (node.Fused p v l r) = 0

forced-top : (nodes older : List FlatNode) (top : FlatNode) (p : ℕ) (t : Shape Leaf) → reverse nodes ≡ top ∷ older → IsSound (reverse nodes) → (h : Tabular p t) → IsTableOf top older t → Forced nodes top p h.leaf
unfolding served-leaf cluster_at
forced-top nodes older (node.Leaf l) p t newest sound h of = absurd of
forced-top nodes older (node.Fused q v l r) p t newest sound h of = absurd of
forced-top nodes older (node.Table q base entries) p t newest sound h of =
    let top : FlatNode = node.Table q base entries in
    let only = asked-only q p t of.0 h.only in
    record {
      property = q;
      on = asked-is q p t of.0 h.only;
      base = base;
      entries = entries;
      cluster = λ j. cluster_at (get_or nodes (slice_index entries.items j) top);
      table = refl;
      lead = λ j in'.
          let place = slice_index entries.items j in
          let m = get_or nodes place top in
          let x : ℤ = base +ℤ pos j in
          let serves = of.1 j in' in
          let w = serves.within in
          let k = ap length newest in
          let l = length-reverse nodes in
          let within : place < length nodes = omega arith in
          let s = served-leaf nodes older top m place (chosen q x t) newest sound serves (chosen-one q x t only) (get_or_default nodes place top m within) in
          let agrees : s.leaf ≡ in_cluster s.leaf.cluster h.leaf = standing_leaf (λ (z : Leaf). z ≡ in_cluster z.cluster h.leaf) t s.leaf h.agree (chosen-stands q x t s.leaf s.stands) in
          let same : s.leaf.cluster ≡ cluster_at m = ap cluster_at (sym s.node_is) in
          slice_get-get_or nodes place top within ∙ ap (λ (z : FlatNode). Some z) s.node_is ∙ ap (λ (z : Leaf). Some (node.Leaf z)) agrees ∙ ap (λ (c : ℕ). Some (node.Leaf (in_cluster c h.leaf))) same;
    }

pub forced : (t : Shape Leaf) (channel stream earlier root named p : ℕ) (nodes : List FlatNode) (needs : Bool) (n : FlatNode) → IsCompiled t (known_at channel stream earlier) nodes root needs named → n ≡ get_or nodes root n → (h : Tabular p t) →
    Forced nodes n p h.leaf
forced t channel stream earlier root named p nodes needs n c at h =
    let same = same-pruned (known_at channel stream earlier) p t h.from h.to h.only in
    let of = subst (IsTableOf c.tops.node c.tops.older) same (c.tops.table (subst IsTable (sym same) h.table)) in
    subst (λ (z : FlatNode). Forced nodes z p h.leaf) (sym (top-is nodes c.tops.older root n c.tops.node c.tops.newest c.tops.place at))
    (forced-top nodes c.tops.older c.tops.node p t c.tops.newest c.sound h of)

-- the root of one leaf is that leaf
pub root-of_leaf : (t : Shape Leaf) (channel stream earlier root named : ℕ) (nodes : List FlatNode) (needs : Bool) (n : FlatNode) (l : Leaf) → IsCompiled t (known_at channel stream earlier) nodes root needs named → n ≡ get_or nodes root n → t ≡ leaf l →
    (x : Leaf) × (n ≡ node.Leaf x)
root-of_leaf t channel stream earlier root named nodes needs n l c at is =
    let a = all_at (pos 0) in
    let k = length-reverse nodes in
    let rooted = c.rooted in
    let shallow = pruned-depth (known_at channel stream earlier) t in
    let flat = ap depth is in
    let r = read-at nodes root n c.rooted at c.sound in
    let one : (onward (says n (a root)) (λ j. reached (reverse nodes) j a)).looks ≡ 1 = ap (λ (x : Reached). x.looks) (sym (r.walks a)) ∙ (c.serves.few a (λ q. zero_fits)).one (omega arith) in
    let end = ends-now (says n (a root)) (λ j. reached (reverse nodes) j a) one (λ j hs e. reached-some (reverse nodes) j a (let b = says-below root n (a root) j hs r.below e in omega arith)) in
    (end.0, stops-at n (a root) end.0 end.1)
