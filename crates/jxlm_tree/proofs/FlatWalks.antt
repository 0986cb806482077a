-- Pruning and choosing keep the walk.
use Rattle.std.proofs.Common.{◌≡◌, ℕ, ◌+◌, ◌<◌, ◌≤◌, max, ℤ, ◌<ℤ◌, ◌≤ℤ◌, Bool, true, false, cond, eqb, Option, Some, None, refl, sym, ap, ◌∙◌, subst, arith, ◌⊎◌, inl, inr}
use Rattle.std.specs.Prelude.{int_lt}
use Rattle.std.proofs.lemmas.Bool.Decides.{nat_tests}
use Rattle.jxlm_ma_tree.specs.declared.leaf.Leaf.{Leaf}
use Rattle.jxlm_ma_tree.specs.declared.marks.Known.{Known}
use Rattle.jxlm_ma_tree.specs.Tree.{Shape, StandsAtLeaf, leaf, decision, walk, depth}
use Rattle.jxlm_tree.specs.Inner.FlatShapes.{size, Lacks}
use Rattle.jxlm_tree.specs.ShortTrees.{Avoids, MeetsOnce, TestsOnly}
use Rattle.jxlm_ma_tree.specs.Pruned.{known, or_seen, seen, taken, pruned}
use Rattle.jxlm_tree.specs.Inner.Chosen.{chosen}
use Rattle.jxlm_ma_tree.proofs.Comparing.{eqb-not, eqb-same, above, not_above}

taken-walk : (o : Option ℤ) (p : ℕ) (v : ℤ) (a b : Shape Leaf) (f : ℕ → ℤ) → walk (taken o p v a b) f ≡ cond (int_lt v (or_seen o (f p))) (walk a f) (walk b f)
taken-walk None p v a b f = refl
taken-walk (Some x) p v a b f = elim (int_lt v x) as (λ t. walk (cond t a b) f ≡ cond t (walk a f) (walk b f)) [ true ↦ refl | false ↦ refl ]

-- pruning keeps the walk
pub pruned-walk : (pins : Known) (t : Shape Leaf) (f : ℕ → ℤ) → walk (pruned pins t) f ≡ walk t (seen pins f)
pruned-walk pins (leaf l) f = refl
pruned-walk pins (decision p v a b) f =
    taken-walk (known pins p) p v (pruned pins a) (pruned pins b) f
    ∙ ap (λ x. cond (int_lt v (seen pins f p)) x (walk (pruned pins b) f)) (pruned-walk pins a f)
    ∙ ap (λ x. cond (int_lt v (seen pins f p)) (walk a (seen pins f)) x) (pruned-walk pins b f)

taken-size : (o : Option ℤ) (p : ℕ) (v : ℤ) (a b : Shape Leaf) → size (taken o p v a b) ≤ size a + size b + 1
taken-size None p v a b = omega arith
taken-size (Some x) p v a b = elim (int_lt v x) as (λ t. size (cond t a b) ≤ size a + size b + 1) [ true ↦ omega arith | false ↦ omega arith ]

pub pruned-size : (pins : Known) (t : Shape Leaf) → size (pruned pins t) ≤ size t
pruned-size pins (leaf l) = omega arith
pruned-size pins (decision p v a b) =
    let s = taken-size (known pins p) p v (pruned pins a) (pruned pins b) in
    let l = pruned-size pins a in
    let r = pruned-size pins b in
    omega arith

taken-depth : (o : Option ℤ) (p : ℕ) (v : ℤ) (a b : Shape Leaf) → depth (taken o p v a b) ≤ max (depth a) (depth b) + 1
taken-depth None p v a b = omega arith
taken-depth (Some x) p v a b = elim (int_lt v x) as (λ t. depth (cond t a b) ≤ max (depth a) (depth b) + 1) [ true ↦ omega arith | false ↦ omega arith ]

pub pruned-depth : (pins : Known) (t : Shape Leaf) → depth (pruned pins t) ≤ depth t
pruned-depth pins (leaf l) = omega arith
pruned-depth pins (decision p v a b) =
    let s = taken-depth (known pins p) p v (pruned pins a) (pruned pins b) in
    let l = pruned-depth pins a in
    let r = pruned-depth pins b in
    omega arith

taken-avoids : (q : ℕ) (o : Option ℤ) (p : ℕ) (v : ℤ) (a b : Shape Leaf) → (p ≡ q → ⊥) → Avoids q a → Avoids q b → Avoids q (taken o p v a b)
taken-avoids q None p v a b n l r = (n, (l, r))
taken-avoids q (Some x) p v a b n l r = elim (int_lt v x) as (λ t. Avoids q (cond t a b)) [ true ↦ l | false ↦ r ]

pruned-avoids : (pins : Known) (q : ℕ) (t : Shape Leaf) → Avoids q t → Avoids q (pruned pins t)
pruned-avoids pins q (leaf l) h = tt
pruned-avoids pins q (decision p v a b) h = taken-avoids q (known pins p) p v (pruned pins a) (pruned pins b) h.0 (pruned-avoids pins q a h.1.0) (pruned-avoids pins q b h.1.1)

taken-once : (o : Option ℤ) (p : ℕ) (v : ℤ) (a b : Shape Leaf) → (Avoids p a × Avoids p b) → MeetsOnce a → MeetsOnce b → MeetsOnce (taken o p v a b)
taken-once None p v a b n l r = (n, (l, r))
taken-once (Some x) p v a b n l r = elim (int_lt v x) as (λ t. MeetsOnce (cond t a b)) [ true ↦ l | false ↦ r ]

pub pruned-once : (pins : Known) (t : Shape Leaf) → MeetsOnce t → MeetsOnce (pruned pins t)
pruned-once pins (leaf l) h = tt
pruned-once pins (decision p v a b) h =
    taken-once (known pins p) p v (pruned pins a) (pruned pins b) (pruned-avoids pins p a h.0.0, pruned-avoids pins p b h.0.1) (pruned-once pins a h.1.0) (pruned-once pins b h.1.1)

-- choosing by the property's value keeps the walk
chosen-test : (e : Bool) (q p : ℕ) (v : ℤ) (a b ca cb : Shape Leaf) (f : ℕ → ℤ) → (e ≡ true → q ≡ p) → walk ca f ≡ walk a f → walk cb f ≡ walk b f →
    walk (cond e (cond (int_lt v (f p)) ca cb) (decision q v a b)) f ≡ walk (decision q v a b) f
chosen-test false q p v a b ca cb f is l r = refl
chosen-test true q p v a b ca cb f is l r =
    let same : q ≡ p = is refl in
    let both : walk (cond (int_lt v (f p)) ca cb) f ≡ cond (int_lt v (f p)) (walk a f) (walk b f) =
    elim (int_lt v (f p)) as (λ t. walk (cond t ca cb) f ≡ cond t (walk a f) (walk b f)) [ true ↦ l | false ↦ r ] in
    both ∙ ap (λ k. cond (int_lt v (f k)) (walk a f) (walk b f)) (sym same)

eqb-is : (q p : ℕ) → eqb q p ≡ true → q ≡ p
eqb-is q p h = grind (arith, nat_tests)

pub eqb-other : (i j : ℕ) → i < j → eqb i j ≡ false
eqb-other i j h = grind (arith, nat_tests)

pub chosen-walk : (p : ℕ) (t : Shape Leaf) (f : ℕ → ℤ) → walk (chosen p (f p) t) f ≡ walk t f
chosen-walk p (leaf l) f = refl
chosen-walk p (decision q v a b) f =
    chosen-test (eqb q p) q p v a b (chosen p (f p) a) (chosen p (f p) b) f (eqb-is q p) (chosen-walk p a f) (chosen-walk p b f)

-- a leaf of what is chosen is one of the tree
cond-stands : (c : Bool) (a b t : Shape Leaf) (l : Leaf) → (StandsAtLeaf a l → StandsAtLeaf t l) → (StandsAtLeaf b l → StandsAtLeaf t l) → StandsAtLeaf (cond c a b) l → StandsAtLeaf t l
cond-stands true a b t l f g h = f h
cond-stands false a b t l f g h = g h

pub chosen-stands : (p : ℕ) (x : ℤ) (t : Shape Leaf) (l : Leaf) → StandsAtLeaf (chosen p x t) l → StandsAtLeaf t l
chosen-stands p x (leaf m) l h = h
chosen-stands p x (decision q v a b) l h =
    cond-stands (eqb q p) (cond (int_lt v x) (chosen p x a) (chosen p x b)) (decision q v a b) (decision q v a b) l
    (cond-stands (int_lt v x) (chosen p x a) (chosen p x b) (decision q v a b) l (λ k. inl (chosen-stands p x a l k)) (λ k. inr (chosen-stands p x b l k)))
    (λ k. k) h

taken-stands : (o : Option ℤ) (p : ℕ) (v : ℤ) (a b : Shape Leaf) (l : Leaf) → StandsAtLeaf (taken o p v a b) l → StandsAtLeaf a l ⊎ StandsAtLeaf b l
taken-stands None p v a b l h = h
taken-stands (Some x) p v a b l h = cond-stands (int_lt v x) a b (decision p v a b) l (λ k. inl k) (λ k. inr k) h

pub pruned-stands : (pins : Known) (t : Shape Leaf) (l : Leaf) → StandsAtLeaf (pruned pins t) l → StandsAtLeaf t l
pruned-stands pins (leaf m) l h = h
pruned-stands pins (decision p v a b) l h = elim (taken-stands (known pins p) p v (pruned pins a) (pruned pins b) l h) [
  | inl k ↦ inl (pruned-stands pins a l k)
  | inr k ↦ inr (pruned-stands pins b l k)
]

-- the depth of what is chosen
chosen_depth-test : (e t : Bool) (q p : ℕ) (v : ℤ) (a b ca cb : Shape Leaf) → depth ca ≤ depth a → depth cb ≤ depth b → depth (cond e (cond t ca cb) (decision q v a b)) ≤ max (depth a) (depth b) + 1
chosen_depth-test false t q p v a b ca cb l r = omega arith
chosen_depth-test true true q p v a b ca cb l r = omega arith
chosen_depth-test true false q p v a b ca cb l r = omega arith

pub chosen-depth : (p : ℕ) (x : ℤ) (t : Shape Leaf) → depth (chosen p x t) ≤ depth t
chosen-depth p x (leaf l) = omega arith
chosen-depth p x (decision q v a b) = chosen_depth-test (eqb q p) (int_lt v x) q p v a b (chosen p x a) (chosen p x b) (chosen-depth p x a) (chosen-depth p x b)

pub chosen_root-depth : (p : ℕ) (x v : ℤ) (a b : Shape Leaf) → depth (chosen p x (decision p v a b)) + 1 ≤ depth (decision p v a b)
chosen_root-depth p x v a b =
    let l = chosen-depth p x a in
    let r = chosen-depth p x b in
    rw (eqb-same p) (elim (int_lt v x) as (λ t. depth (cond t (chosen p x a) (chosen p x b)) + 1 ≤ max (depth a) (depth b) + 1) [ true ↦ omega arith | false ↦ omega arith ])

pub chosen-one : (p : ℕ) (x : ℤ) (t : Shape Leaf) → TestsOnly p t → depth (chosen p x t) ≡ 0
chosen-one p x (leaf l) h = refl
chosen-one p x (decision q v a b) h =
    let l = chosen-one p x a h.1.0 in
    let r = chosen-one p x b h.1.1 in
    let e : eqb q p ≡ true = subst (λ k. eqb q k ≡ true) h.0 (eqb-same q) in
    rw e (elim (int_lt v x) as (λ t. depth (cond t (chosen p x a) (chosen p x b)) ≡ 0) [ true ↦ l | false ↦ r ])

-- only the root test decides whether anything is chosen
pub chosen-other : (p q : ℕ) (x v : ℤ) (a b : Shape Leaf) → (q ≡ p → ⊥) → chosen p x (decision q v a b) ≡ decision q v a b
chosen-other p q x v a b h = rw (eqb-not q p h)

pub chosen_above : (p : ℕ) (x v : ℤ) (a b : Shape Leaf) → v <ℤ x → chosen p x (decision p v a b) ≡ chosen p x a
chosen_above p x v a b h = rw (eqb-same p, above v x h)

pub chosen_not_above : (p : ℕ) (x v : ℤ) (a b : Shape Leaf) → x ≤ℤ v → chosen p x (decision p v a b) ≡ chosen p x b
chosen_not_above p x v a b h = rw (eqb-same p, not_above v x h)

taken-lacks : (p : ℕ → Bool) (q : Leaf → Bool) (o : Option ℤ) (k : ℕ) (v : ℤ) (a b : Shape Leaf) → p k ≡ false → Lacks p q a → Lacks p q b → Lacks p q (taken o k v a b)
taken-lacks p q None k v a b n l r = (n, (l, r))
taken-lacks p q (Some x) k v a b n l r = elim (int_lt v x) as (λ t. Lacks p q (cond t a b)) [ true ↦ l | false ↦ r ]

-- what a tree lacks, it lacks when pruned
pub pruned-lacks : (pins : Known) (p : ℕ → Bool) (q : Leaf → Bool) (t : Shape Leaf) → Lacks p q t → Lacks p q (pruned pins t)
pruned-lacks pins p q (leaf l) h = h
pruned-lacks pins p q (decision k v a b) h = taken-lacks p q (known pins k) k v (pruned pins a) (pruned pins b) h.0 (pruned-lacks pins p q a h.1.0) (pruned-lacks pins p q b h.1.1)

taken_known-lacks : (p : ℕ → Bool) (o : Option ℤ) (k : ℕ) (v : ℤ) (a b : Shape Leaf) → (o ≡ None → p k ≡ false) → Lacks p (λ l. false) a → Lacks p (λ l. false) b → Lacks p (λ l. false) (taken o k v a b)
taken_known-lacks p None k v a b n l r = (n refl, (l, r))
taken_known-lacks p (Some x) k v a b n l r = elim (int_lt v x) as (λ t. Lacks p (λ l. false) (cond t a b)) [ true ↦ l | false ↦ r ]

-- a pruned tree tests no property that is known
pub pruned_known-lacks : (pins : Known) (p : ℕ → Bool) (t : Shape Leaf) → ((k : ℕ) → known pins k ≡ None → p k ≡ false) → Lacks p (λ l. false) (pruned pins t)
pruned_known-lacks pins p (leaf l) h = refl
pruned_known-lacks pins p (decision k v a b) h = taken_known-lacks p (known pins k) k v (pruned pins a) (pruned pins b) (h k) (pruned_known-lacks pins p a h) (pruned_known-lacks pins p b h)
