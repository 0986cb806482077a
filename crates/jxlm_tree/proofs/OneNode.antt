-- A tree of which nothing is left to decide is one node.
use Rattle.std.proofs.Common.{◌≡◌, pos, Bool, true, false, cond, refl, sym, ap, subst}
use Rattle.std.specs.Prelude.{int_lt}
use Rattle.jxlm_tree.specs.CompiledNodes.{AsksKnown, flat_nodes, takes, prune}
use Rattle.jxlm_tree.specs.FlatTree.{FlatTree, property_of}
use Rattle.jxlm_ma_tree.specs.Tree.{Shape, leaf, decision}
use Rattle.jxlm_ma_tree.specs.declared.leaf.Leaf.{Leaf}

pub one-left : (t : FlatTree) (l : Leaf) → prune t t.tree ≡ leaf l → flat_nodes t ≡ 1
one-left t l e = ap (λ u. (takes u).own) e

-- some leaf is all that is left
abbrev IsLeaf : Shape Leaf → Type 0
IsLeaf t = (l : Leaf) × (t ≡ leaf l)

picks : (goes : Bool) (a b : Shape Leaf) → IsLeaf a → IsLeaf b → IsLeaf (cond goes a b)
picks true a b x y = x
picks false a b x y = y

decided : (t : FlatTree) (s : Shape Leaf) → AsksKnown t s → IsLeaf (prune t s)
decided t (leaf l) h = (l, refl)
decided t (decision k v a b) h =
    subst (λ (known : Bool). IsLeaf (cond known (cond (int_lt v (property_of t (λ _. pos 0) k)) (prune t a) (prune t b)) (decision k v (prune t a) (prune t b)))) (sym h.0)
    (picks (int_lt v (property_of t (λ _. pos 0) k)) (prune t a) (prune t b) (decided t a h.1.0) (decided t b h.1.1))

pub one-known : (t : FlatTree) → AsksKnown t t.tree → flat_nodes t ≡ 1
one-known t h = let d = decided t t.tree h in one-left t d.0 d.1
