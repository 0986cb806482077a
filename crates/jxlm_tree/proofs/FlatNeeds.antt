-- What the nodes need.
use Rattle.std.proofs.Common.{◌≡◌, ℕ, Bool, true, false, eqb, List, [], ◌∷◌, ◌++◌, reverse, refl, sym, ap, subst, arith, ◌||◌}
use Rattle.std.specs.List.{list_any}
use Rattle.std.proofs.lemmas.List.{reverse-append, reverse-reverse}
use Rattle.std.proofs.lemmas.Bool.Decides.{nat_tests}
use Rattle.jxlm_ma_tree.specs.declared.leaf.Leaf.{Leaf}
use Rattle.jxlm_tree.specs.declared.flat.FlatNode.{FlatNode}
use Rattle.jxlm_tree.specs.declared.flat.FlatNode.TheVariants as node
use Rattle.jxlm_tree.specs.Inner.FlatNodes.{NodeLacks, NodesLack, is_error, corrects, sees_error, Spares, alike}
use Rattle.jxlm_tree.proofs.FlatLooks.{blind}

eqb-cannot : (k : ℕ) → k ≡ 15 → eqb k 15 ≡ false → ⊥
eqb-cannot k is h = grind (arith, nat_tests)

pub or-left : (a b : Bool) → (a || b) ≡ false → a ≡ false
or-left true b e = e
or-left false b e = refl

pub or-right : (a b : Bool) → (a || b) ≡ false → b ≡ false
or-right true b e = cc
or-right false b e = e

or-both : (a b : Bool) → a ≡ false → b ≡ false → (a || b) ≡ false
or-both true b e f = e
or-both false b e f = f

node-lacks : (n : FlatNode) → sees_error n ≡ false → NodeLacks is_error corrects n
node-lacks (node.Leaf l) e = e
node-lacks (node.Table p base entries) e = e
node-lacks (node.Fused p v l r) e =
    let both = or-right (eqb p 15) (eqb l.property 15 || eqb r.property 15) e in
    (or-left (eqb p 15) (eqb l.property 15 || eqb r.property 15) e, (or-left (eqb l.property 15) (eqb r.property 15) both, or-right (eqb l.property 15) (eqb r.property 15) both))

node-sees_none : (n : FlatNode) → NodeLacks is_error corrects n → sees_error n ≡ false
node-sees_none (node.Leaf l) e = e
node-sees_none (node.Table p base entries) e = e
node-sees_none (node.Fused p v l r) e = or-both (eqb p 15) (eqb l.property 15 || eqb r.property 15) e.0 (or-both (eqb l.property 15) (eqb r.property 15) e.1.0 e.1.1)

lack-append : (p : ℕ → Bool) (q : Leaf → Bool) (xs ys : List FlatNode) → NodesLack p q xs → NodesLack p q ys → NodesLack p q (xs ++ ys)
lack-append p q [] ys h k = k
lack-append p q (x ∷ xs) ys h k = (h.0, lack-append p q xs ys h.1 k)

pub lack-reverse : (p : ℕ → Bool) (q : Leaf → Bool) (xs : List FlatNode) → NodesLack p q xs → NodesLack p q (reverse xs)
lack-reverse p q [] h = tt
lack-reverse p q (x ∷ xs) h = subst (NodesLack p q) (sym (reverse-append (x ∷ []) xs)) (lack-append p q (reverse xs) (x ∷ []) (lack-reverse p q xs h.1) (h.0, tt))

none-lack : (ns : List FlatNode) → list_any sees_error ns ≡ false → NodesLack is_error corrects ns
none-lack [] e = tt
none-lack (n ∷ ns) e = (node-lacks n (or-left (sees_error n) (list_any sees_error ns) e), none-lack ns (or-right (sees_error n) (list_any sees_error ns) e))

lack-none : (ns : List FlatNode) → NodesLack is_error corrects ns → list_any sees_error ns ≡ false
lack-none [] h = refl
lack-none (n ∷ ns) h = or-both (sees_error n) (list_any sees_error ns) (node-sees_none n h.0) (lack-none ns h.1)

-- where no node sees an error, the walk spares it
pub spares : (items : List FlatNode) (root : ℕ) → list_any sees_error items ≡ false → Spares (reverse items) root
spares items root e =
    let b = blind is_error corrects (reverse items) refl (lack-reverse is_error corrects items (none-lack items e)) in
    record {
      same = λ f g same. ap (λ r. r.leaf) (b.same root (λ i. alike f) (λ i. alike g) (λ j k h. let is = same k (λ e. eqb-cannot k e h) in (is, is)));
      leaf = λ a. b.leaf root a;
    }

-- where the tree sees none, no node does
pub sees_none : (items : List FlatNode) → NodesLack is_error corrects (reverse items) → list_any sees_error items ≡ false
sees_none items h = lack-none items (subst (NodesLack is_error corrects) (reverse-reverse items) (lack-reverse is_error corrects (reverse items) h))
