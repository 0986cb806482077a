-- The earlier channels that the nodes ask for.
use Rattle.std.proofs.Common.{◌≡◌, ℕ, ◌+◌, ◌*◌, ◌<◌, ◌≤◌, max, ℤ, Bool, true, false, cond, eqb, ltb, List, [], ◌∷◌, reverse, Some, None, refl, ap, subst, arith, inl, inr}
use Rattle.std.specs.Prelude.{fold}
use Rattle.std.proofs.lemmas.List.{reverse-reverse}
use Rattle.std.proofs.lemmas.Bool.Decides.{nat_tests, leb_tells}
use Rattle.jxlm_ma_tree.specs.declared.marks.Known.{Known}
use Rattle.jxlm_tree.specs.declared.flat.FlatNode.{FlatNode}
use Rattle.jxlm_tree.specs.declared.flat.FlatNode.TheVariants as node
use Rattle.jxlm_ma_tree.specs.Pruned.{known}
use Rattle.jxlm_tree.specs.Inner.FlatNodes.{NodeLacks, NodesLack, channels_of, node_channels, most_channels, of_channel, no_leaf, alike, reached}
use Rattle.jxlm_tree.proofs.FlatNeeds.{lack-reverse}
use Rattle.jxlm_tree.proofs.FlatLooks.{blind}

pub not_past : (b n : ℕ) → n ≤ b → ltb b n ≡ false
not_past b n h = grind (arith, nat_tests)

not_past-is : (b n : ℕ) → ltb b n ≡ false → n ≤ b
not_past-is b n h = grind (arith, nat_tests)

abbrev past : ℕ → ℕ → Bool
past b k = ltb b (channels_of k)

abbrev most : ℕ → List FlatNode → ℕ
most a ns = fold (λ m n. max m (node_channels n)) a ns

most-grows : (a : ℕ) (ns : List FlatNode) → a ≤ most a ns
most-grows a [] = omega arith
most-grows a (n ∷ ns) = let h = most-grows (max a (node_channels n)) ns in omega arith

node-within : (b : ℕ) (n : FlatNode) → node_channels n ≤ b → NodeLacks (past b) no_leaf n
node-within b (node.Leaf l) h = refl
node-within b (node.Table p base entries) h = not_past b (channels_of p) h
node-within b (node.Fused p v l r) h = (not_past b (channels_of p) (omega arith), (not_past b (channels_of l.property) (omega arith), not_past b (channels_of r.property) (omega arith)))

most-within : (b a : ℕ) (ns : List FlatNode) → most a ns ≤ b → NodesLack (past b) no_leaf ns
most-within b a [] h = tt
most-within b a (n ∷ ns) h =
    let g = most-grows (max a (node_channels n)) ns in
    (node-within b n (omega arith), most-within b (max a (node_channels n)) ns h)

node-bound : (b : ℕ) (n : FlatNode) → NodeLacks (past b) no_leaf n → node_channels n ≤ b
node-bound b (node.Leaf l) h = omega arith
node-bound b (node.Table p base entries) h = not_past-is b (channels_of p) h
node-bound b (node.Fused p v l r) h =
    let x = not_past-is b (channels_of p) h.0 in
    let y = not_past-is b (channels_of l.property) h.1.0 in
    let z = not_past-is b (channels_of r.property) h.1.1 in
    omega arith

most-bound : (b a : ℕ) (ns : List FlatNode) → a ≤ b → NodesLack (past b) no_leaf ns → most a ns ≤ b
most-bound b a [] h l = h
most-bound b a (n ∷ ns) h l = let k = node-bound b n l.0 in most-bound b (max a (node_channels n)) ns (omega arith) l.1

differs : (m n : ℕ) → eqb m n ≡ false → m ≡ n → ⊥
differs m n h e = grind (arith, nat_tests)

max-other : (m n k : ℕ) → (m ≡ k → ⊥) → (n ≡ k → ⊥) → max m n ≡ k → ⊥
max-other m n k a b e = omega arith

node-other : (d : ℕ) (n : FlatNode) → NodeLacks (of_channel d) no_leaf n → node_channels n ≡ d + 1 → ⊥
node-other d (node.Leaf l) h e = omega arith
node-other d (node.Table p base entries) h e = differs (channels_of p) (d + 1) h e
node-other d (node.Fused p v l r) h e =
    max-other (channels_of p) (max (channels_of l.property) (channels_of r.property)) (d + 1) (differs (channels_of p) (d + 1) h.0)
    (max-other (channels_of l.property) (channels_of r.property) (d + 1) (differs (channels_of l.property) (d + 1) h.1.0) (differs (channels_of r.property) (d + 1) h.1.1)) e

most-other : (d a : ℕ) (ns : List FlatNode) → (a ≡ d + 1 → ⊥) → NodesLack (of_channel d) no_leaf ns → most a ns ≡ d + 1 → ⊥
most-other d a [] h l e = h e
most-other d a (n ∷ ns) h l e = most-other d (max a (node_channels n)) ns (max-other a (node_channels n) (d + 1) h (node-other d n l.0)) l.1 e

-- a walk sees no earlier channel past those that are asked for
pub sees_no_more : (items : List FlatNode) (root : ℕ) (f g : ℕ → ℤ) → ((k : ℕ) → channels_of k ≤ most_channels items → f k ≡ g k) → (reached (reverse items) root (λ i. alike f)).leaf ≡ (reached (reverse items) root (λ i. alike g)).leaf
sees_no_more items root f g same =
    let b = blind (past (most_channels items)) no_leaf (reverse items) refl (lack-reverse (past (most_channels items)) no_leaf items (most-within (most_channels items) 0 items (omega arith))) in
    ap (λ r. r.leaf) (b.same root (λ i. alike f) (λ i. alike g) (λ j k h. let is = same k (not_past-is (most_channels items) (channels_of k) h) in (is, is)))

from_reverse : (p : ℕ → Bool) (items : List FlatNode) → NodesLack p no_leaf (reverse items) → NodesLack p no_leaf items
from_reverse p items h = subst (NodesLack p no_leaf) (reverse-reverse items) (lack-reverse p no_leaf (reverse items) h)

pub channels-bound : (b : ℕ) (items : List FlatNode) → NodesLack (λ k. ltb b (channels_of k)) no_leaf (reverse items) → most_channels items ≤ b
channels-bound b items h = most-bound b 0 items (omega arith) (from_reverse (past b) items h)

pub channels-other : (d : ℕ) (items : List FlatNode) → NodesLack (of_channel d) no_leaf (reverse items) → most_channels items ≡ d + 1 → ⊥
channels-other d items h = most-other d 0 items (λ e. omega arith) (from_reverse (of_channel d) items h)

-- what is not known asks for no channel past those that are there
few_channels : (k n : ℕ) → k < 16 + 4 * n → channels_of k ≤ n
few_channels k n h = elim (leb_tells 16 k) [
  | inr low ↦ let e : ltb k 16 ≡ true = grind (arith, nat_tests) in rw e (omega arith)
  | inl high ↦ let e : ltb k 16 ≡ false = grind (arith, nat_tests) in rw e (omega arith)
]

known-go : (a b c : Bool) (x y z : ℤ) → cond a (Some x) (cond b (Some y) (cond c None (Some z))) ≡ None → c ≡ true
known-go true b c x y z e = cc
known-go false true c x y z e = cc
known-go false false true x y z e = refl
known-go false false false x y z e = cc

below-is : (k n : ℕ) → ltb k n ≡ true → k < n
below-is k n h = grind (arith, nat_tests)

pub unknown-few : (pins : Known) (k : ℕ) → known pins k ≡ None → ltb pins.prev_channels (channels_of k) ≡ false
unknown-few pins k e =
    not_past pins.prev_channels (channels_of k) (few_channels k pins.prev_channels (below-is k (16 + 4 * pins.prev_channels) (known-go (eqb k 0) (eqb k 1) (ltb k (16 + 4 * pins.prev_channels)) _ _ _ e)))

pub not_zero : (d : ℕ) → eqb 0 (d + 1) ≡ false
not_zero d = grind (arith, nat_tests)
