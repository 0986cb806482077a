-- What the functions' answers need, with the checks' casts as equations.
use Rattle.std.proofs.Common.{◌≡◌, ℕ, ◌+◌, ◌<◌, ◌≤◌, ℤ, pos, ◌+ℤ◌, ◌<ℤ◌, ◌≤ℤ◌, List, [], ◌∷◌, length, Option, Some, None, Result, Ok, Err, IfOk, OnOk, IsSome, sym, ap, ◌∙◌, subst}
use Rattle.std.proofs.lemmas.Bool.{false≢true}
use Rattle.jxlm_ma_tree.specs.declared.marks.Survey.{Survey}
use Rattle.jxlm_tree.specs.declared.flat.FlatNode.{FlatNode}
use Rattle.jxlm_ma_tree.specs.declared.leaf.Leaf.{Leaf}
use Rattle.jxlm_ma_tree.specs.Tree.{Shape, decision}
use Rattle.jxlm_ma_tree.specs.declared.marks.Marked.{Marked}
use Rattle.jxlm_ma_tree.specs.Marked.{marked_shape}
use Rattle.jxlm_tree.specs.Inner.FlatShapes.{size}
use Rattle.jxlm_tree.specs.Inner.Chosen.{hanging}
use Rattle.jxlm_tree.specs.Inner.FlatNodes.{Compiles, CompilesSide, Fills, IsTable}
use Rattle.jxlm_tree.proofs.FlatNodes.{hanging-at, hanging-some, hanging-few, fill-left, fill-right, fill-both, side-split}

pub on_ok : {T E : Type 0} (r : Result T E) (P Q : Type 0) → (P → Q) → OnOk r P → OnOk r Q
on_ok (Ok x) P Q f h = f h
on_ok (Err e) P Q f h = h

pub if_ok : {T E : Type 0} (r : Result T E) (P Q : T → Type 0) → ((x : T) → P x → Q x) → IfOk r P → IfOk r Q
if_ok (Ok x) P Q f h = f x h
if_ok (Err e) P Q f h = h

-- what a root that was opened tells of numbers
pub record Splits (p : ℕ) (t a b : Shape Leaf) : Type 0 where
  pub sizes : size t ≡ size a + size b + 1
  pub hang : hanging p t ≡ hanging p a + hanging p b
  pub some_a : 0 < hanging p a
  pub some_b : 0 < hanging p b
  pub few_a : hanging p a ≤ size a
  pub few_b : hanging p b ≤ size b

pub splits-at : (p q : ℕ) (v : ℤ) (t a b : Shape Leaf) → t ≡ decision q v a b → q ≡ p → Splits p t a b
splits-at p q v t a b e is = record {
  sizes = ap size e;
  hang = ap (hanging p) e ∙ ap (λ k. hanging p (decision k v a b)) is ∙ hanging-at p v a b;
  some_a = hanging-some p a;
  some_b = hanging-some p b;
  few_a = hanging-few p a;
  few_b = hanging-few p b;
}

at_decision : (p q : ℕ) (v : ℤ) (t a b : Shape Leaf) → t ≡ decision q v a b → q ≡ p → decision p v a b ≡ t
at_decision p q v t a b e is = ap (λ k. decision k v a b) (sym is) ∙ sym e

moved : (p : ℕ) (low high low1 high1 : ℤ) (t : Shape Leaf) (old new : List FlatNode) (before after : List ℕ) → low1 ≡ low → high1 ≡ high → Fills old new before after p low1 high1 t → Fills old new before after p low high t
moved p low high low1 high1 t old new before after l h f = subst (λ x. Fills old new before after p x high t) l (subst (λ x. Fills old new before after p low1 x t) h f)

pub fills-left : (p q : ℕ) (v low high low1 high1 : ℤ) (t a b : Shape Leaf) (old new : List FlatNode) (before after : List ℕ) → t ≡ decision q v a b → q ≡ p → low1 ≡ low → high1 ≡ high → v <ℤ low →
    Fills old new before after p low1 high1 a → Fills old new before after p low high t
fills-left p q v low high low1 high1 t a b old new before after e is l h below f =
    subst (λ u. Fills old new before after p low high u) (at_decision p q v t a b e is) (fill-left p low high v a b old new before after below (moved p low high low1 high1 a old new before after l h f))

pub fills-right : (p q : ℕ) (v low high low1 high1 : ℤ) (t a b : Shape Leaf) (old new : List FlatNode) (before after : List ℕ) → t ≡ decision q v a b → q ≡ p → low1 ≡ low → high1 ≡ high → high ≤ℤ v →
    Fills old new before after p low1 high1 b → Fills old new before after p low high t
fills-right p q v low high low1 high1 t a b old new before after e is l h over f =
    subst (λ u. Fills old new before after p low high u) (at_decision p q v t a b e is) (fill-right p low high v a b old new before after over (moved p low high low1 high1 b old new before after l h f))

pub fills-both : (p q : ℕ) (v low high low1 v1 v2 high2 : ℤ) (t a b : Shape Leaf) (old mid new : List FlatNode) (before middle after : List ℕ) → t ≡ decision q v a b → q ≡ p →
    low1 ≡ low → v1 ≡ v → v2 ≡ (v +ℤ pos 1) → high2 ≡ high → low ≤ℤ v → v <ℤ high →
    Fills old mid before middle p low1 v1 b → Fills mid new middle after p v2 high2 a → Fills old new before after p low high t
fills-both p q v low high low1 v1 v2 high2 t a b old mid new before middle after e is l e1 e2 h lv vh fb fa =
    subst (λ u. Fills old new before after p low high u) (at_decision p q v t a b e is)
    (fill-both p low high v a b old mid new before middle after lv vh
    (moved p low v low1 v1 b old mid before middle l e1 fb)
    (moved p (v +ℤ pos 1) high v2 high2 a mid new middle after e2 h fa))

-- a node that was added
pub added : {E : Type 0} (r : Result ℕ E) (old new newer : List FlatNode) (n : FlatNode) (t u : Shape Leaf) → u ≡ t → Compiles old (n ∷ new) (length new) t → IfOk r (λ i. i ≡ length new) → OnOk r (newer ≡ n ∷ new) →
    IfOk r (λ i. Compiles old newer i u)
added (Ok i) old new newer n t u same c at_i is = subst (λ w. Compiles old newer i w) (sym same) (subst (λ k. Compiles old newer k t) (sym at_i) (subst (λ ns. Compiles old ns (length new) t) (sym is) c))
added (Err e) old new newer n t u same c at_i is = tt

pub on_ok3 : {T E : Type 0} (r : Result T E) (A B C Q : Type 0) → (A → B → C → Q) → OnOk r A → OnOk r B → OnOk r C → OnOk r Q
on_ok3 (Ok x) A B C Q f a b c = f a b c
on_ok3 (Err e) A B C Q f a b c = a

pub fills-table : (p : ℕ) (low high low1 high1 : ℤ) (t u : Shape Leaf) (old new : List FlatNode) (before after : List ℕ) → before ≡ [] → low1 ≡ low → high1 ≡ high → t ≡ u →
    Fills old new before after p low1 high1 t → Fills old new [] after p low high u
fills-table p low high low1 high1 t u old new before after none l h is f =
    subst (λ w. Fills old new [] after p low high w) is (subst (λ b. Fills old new b after p low high t) none (moved p low high low1 high1 t old new before after l h f))

pub no_table : (o r : Option Survey) → r ≡ o → r ≡ None → IsSome o → ⊥
no_table None r e n h = false≢true h
no_table (Some x) r e n h = cc

pub side-split-at : (k p : ℕ) (v v1 : ℤ) (t a b : Shape Leaf) (i j : ℕ) (old mid new : List FlatNode) → t ≡ decision p v a b → v1 ≡ v → (IsTable (decision p v a b) → ⊥) → Compiles old mid i a → Compiles mid new j b →
    CompilesSide k old new (record { property = p; value = v1; above = i; rest = j }) t
side-split-at k p v v1 t a b i j old mid new e is none ca cb =
    subst (λ (z : ℤ). CompilesSide k old new (record { property = p; value = z; above = i; rest = j }) t) (sym is)
    (subst (λ u. CompilesSide k old new (record { property = p; value = v; above = i; rest = j }) u) (sym e) (side-split k p v a b i j old mid new none ca cb))

pub side-named : (k p q : ℕ) (v : ℤ) (i j : ℕ) (old new : List FlatNode) (t : Shape Leaf) → q ≡ p → CompilesSide k old new (record { property = p; value = v; above = i; rest = j }) t →
    CompilesSide k old new (record { property = q; value = v; above = i; rest = j }) t
side-named k p q v i j old new t e h = subst (λ n. CompilesSide k old new (record { property = n; value = v; above = i; rest = j }) t) (sym e) h

pub size_of : {m n : Marked} → m ≡ n → size (marked_shape m) ≡ size (marked_shape n)
size_of e = ap (λ m. size (marked_shape m)) e
