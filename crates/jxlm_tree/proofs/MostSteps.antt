-- What the tests of the bound of a sample's steps say.
use Rattle.std.proofs.Common.{◌≡◌, ℕ, ℤ, ◌+◌, ◌≤◌, ◌+ℤ◌, ◌<ℤ◌, ◌≤ℤ◌, pos, Bool, true, false, cond, ◌∷◌, length, get_or, refl, sym, ap, ◌∙◌, subst, arith, inl, inr}
use Rattle.std.proofs.lemmas.Bool.Decides.{Decides-eqb, Decides-int_eq, Decides-ltb}
use Rattle.std.proofs.lemmas.Int.{ints, clamps}
use Rattle.std.proofs.lemmas.List.{length-append}
use Rattle.std.proofs.lemmas.Option.{get_or_from_slice_get}
use Rattle.std.specs.Bool.{Decides}
use Rattle.std.specs.Int.{int_min, int_max}
use Rattle.std.specs.Ordering.{int_eq}
use Rattle.std.specs.Prelude.{◌==◌, ◌&&◌, ◌||◌, int_lt, nat_lt, not}
use Rattle.jxlm_tree.specs.ClusterTables.{in_cluster}
use Rattle.jxlm_tree.specs.ShortTrees.{CutsWithin, EachCut, TestsOnly}
use Rattle.jxlm_tree.specs.Steps.{are_alike, cuts_within, each_cut, each_leaf, is_tabular, leaves_within, leftmost, most_steps, plain_gradient, tests_only}
use Rattle.jxlm_ma_tree.specs.Tree.{AllLeaves, Shape, leaf, decision, depth}
use Rattle.jxlm_ma_tree.specs.Cuts.{cuts, greatest, least}
use Rattle.jxlm_ma_tree.specs.declared.leaf.Leaf.{Leaf}
use Rattle.jxlm_tree.proofs.FlatForced.{Tabular}
use Rattle.jxlm_ma_tree.proofs.CutLists.{cuts_above, cuts_below, cuts_between}
use Rattle.jxlm_tree.proofs.FlatTwo.{cuts-table}
use Rattle.jxlm_ma_tree.proofs.Comparing.{above, int_lt-tells, not_above}
use Rattle.jxlm_predictor.specs.Predictions.{number_of, predictors}
use Rattle.jxlm_predictor.specs.declared.predictor.Predictor.{Predictor}
use Rattle.jxlm_predictor.specs.declared.predictor.Predictor.TheVariants.{Zero}
use Rattle.jxlm_predictor.proofs.Numbers.{found_by_number}

and-tells : (a b : Bool) → (a && b) ≡ true → (a ≡ true) × (b ≡ true)
and-tells true b e = (refl, e)
and-tells false b e = cc

pub and-both : (a b : Bool) → a ≡ true → b ≡ true → (a && b) ≡ true
and-both a b x y = rw (x, y)

decides-and : {P Q : Type 0} (a b : Bool) → Decides a P → Decides b Q → Decides (a && b) (P × Q)
decides-and a b p q = (λ e. let both = and-tells a b e in (p.0 both.0, q.0 both.1), λ h. and-both a b (p.1 h.0) (q.1 h.1))

pub decides-tests_only : (p : ℕ) (t : Shape Leaf) → Decides (tests_only p t) (TestsOnly p t)
decides-tests_only p (leaf l) = (λ e. tt, λ h. refl)
decides-tests_only p (decision q v a b) = decides-and (q == p) (tests_only p a && tests_only p b) (Decides-eqb q p) (decides-and (tests_only p a) (tests_only p b) (decides-tests_only p a) (decides-tests_only p b))

decides-each_cut : {P : ℤ → Type 0} (is : ℤ → Bool) → ((v : ℤ) → Decides (is v) (P v)) → (t : Shape Leaf) → Decides (each_cut is t) (EachCut P t)
decides-each_cut is d (leaf l) = (λ e. tt, λ h. refl)
decides-each_cut is d (decision q v a b) = decides-and (is v) (each_cut is a && each_cut is b) (d v) (decides-and (each_cut is a) (each_cut is b) (decides-each_cut is d a) (decides-each_cut is d b))

pub decides-each_leaf : {P : Leaf → Type 0} (is : Leaf → Bool) → ((l : Leaf) → Decides (is l) (P l)) → (t : Shape Leaf) → Decides (each_leaf is t) (AllLeaves P t)
decides-each_leaf is d (leaf l) = d l
decides-each_leaf is d (decision q v a b) = decides-and (each_leaf is a) (each_leaf is b) (decides-each_leaf is d a) (decides-each_leaf is d b)

-- a predictor is known by its number
numbered : (p : Predictor) → get_or predictors (number_of p) Zero ≡ p
numbered p = get_or_from_slice_get predictors (number_of p) p Zero (found_by_number p)

leaf_of : ℕ → Predictor → ℤ → ℕ → Leaf
leaf_of c p o m = record { cluster = c; predictor = p; offset = o; multiplier = m }

pub decides-alike : (l m : Leaf) → Decides (are_alike l m) (m ≡ in_cluster m.cluster l)
unfolding leaf_of
decides-alike l m = (
  λ e.
      let one = and-tells (number_of l.predictor == number_of m.predictor) (int_eq l.offset m.offset && (l.multiplier == m.multiplier)) e in
      let two = and-tells (int_eq l.offset m.offset) (l.multiplier == m.multiplier) one.1 in
      let predictor : l.predictor ≡ m.predictor = sym (numbered l.predictor) ∙ ap (λ k. get_or predictors k Zero) ((Decides-eqb (number_of l.predictor) (number_of m.predictor)).0 one.0) ∙ numbered m.predictor in
      let offset : l.offset ≡ m.offset = (Decides-int_eq l.offset m.offset).0 two.0 in
      let multiplier : l.multiplier ≡ m.multiplier = (Decides-eqb l.multiplier m.multiplier).0 two.1 in
      sym (ap (λ p. leaf_of m.cluster p l.offset l.multiplier) predictor ∙ ap (λ o. leaf_of m.cluster m.predictor o l.multiplier) offset ∙ ap (λ k. leaf_of m.cluster m.predictor m.offset k) multiplier),
  λ h.
      let predictor : m.predictor ≡ l.predictor = ap (λ (k : Leaf). k.predictor) h in
      let offset : m.offset ≡ l.offset = ap (λ (k : Leaf). k.offset) h in
      let multiplier : m.multiplier ≡ l.multiplier = ap (λ (k : Leaf). k.multiplier) h in
      and-both (number_of l.predictor == number_of m.predictor) (int_eq l.offset m.offset && (l.multiplier == m.multiplier)) ((Decides-eqb (number_of l.predictor) (number_of m.predictor)).1 (ap number_of (sym predictor)))
      (and-both (int_eq l.offset m.offset) (l.multiplier == m.multiplier) ((Decides-int_eq l.offset m.offset).1 (sym offset)) ((Decides-eqb l.multiplier m.multiplier).1 (sym multiplier))),
)

-- ---- near cuts

each_cut-map : (P Q : ℤ → Type 0) → ((v : ℤ) → P v → Q v) → (t : Shape Leaf) → EachCut P t → EachCut Q t
each_cut-map P Q f (leaf l) h = tt
each_cut-map P Q f (decision q v a b) h = (f v h.0, (each_cut-map P Q f a h.1.0, each_cut-map P Q f b h.1.1))

each_cut-both : (P Q : ℤ → Type 0) (t : Shape Leaf) → EachCut P t → EachCut Q t → EachCut (λ v. P v × Q v) t
each_cut-both P Q (leaf l) h k = tt
each_cut-both P Q (decision q v a b) h k = ((h.0, k.0), (each_cut-both P Q a h.1.0 k.1.0, each_cut-both P Q b h.1.1 k.1.1))

-- the least of d and all cuts
record Lowest (d : ℤ) (t : Shape Leaf) : Type 1 where
  cut : ℤ
  first : cut ≤ℤ d
  below : EachCut (λ v. cut ≤ℤ v) t
  one : (P : ℤ → Type 0) → P d → EachCut P t → P cut

lesser : (x y : ℤ) → (z : ℤ) × ((z ≤ℤ x) × ((z ≤ℤ y) × ((P : ℤ → Type 0) → P x → P y → P z)))
lesser x y = elim (int_lt-tells x y) [
  | inl less ↦ let h = less.1 in (x, (omega (arith, ints), (omega (arith, ints), λ P a b. a)))
  | inr more ↦ let h = more.1 in (y, (omega (arith, ints), (omega (arith, ints), λ P a b. b)))
]

lowest : (d : ℤ) (t : Shape Leaf) → Lowest d t
lowest d (leaf l) = record { cut = d; first = omega (arith, ints); below = tt; one = λ P at_d h. at_d }
lowest d (decision q v a b) =
    let m = lesser d v in
    let l = lowest m.0 a in
    let r = lowest l.cut b in
    let m0 = m.1.0 in
    let m1 = m.1.1.0 in
    let l0 = l.first in
    let r0 = r.first in
    record {
      cut = r.cut;
      first = omega (arith, ints);
      below = (omega (arith, ints), (each_cut-map (λ u. l.cut ≤ℤ u) (λ u. r.cut ≤ℤ u) (λ u h. omega (arith, ints)) a l.below, r.below));
      one = λ P at_d h. r.one P (l.one P (m.1.1.1 P at_d h.0) h.1.0) h.1.1;
    }

within-pairs : (n : ℕ) (t : Shape Leaf) → EachCut (λ v. EachCut (λ w. w ≤ℤ (v +ℤ pos n)) t) t → CutsWithin n t
within-pairs n (leaf l) h = (pos 0, tt)
within-pairs n (decision q v a b) h =
    let t : Shape Leaf = decision q v a b in
    let m = lowest v t in
    (m.cut, each_cut-both (λ w. m.cut ≤ℤ w) (λ w. w ≤ℤ (m.cut +ℤ pos n)) t m.below (m.one (λ u. EachCut (λ w. w ≤ℤ (u +ℤ pos n)) t) h.0 h))

pairs-within : (n : ℕ) (t : Shape Leaf) → CutsWithin n t → EachCut (λ v. EachCut (λ w. w ≤ℤ (v +ℤ pos n)) t) t
pairs-within n t h =
    each_cut-map (λ v. (h.0 ≤ℤ v) × (v ≤ℤ (h.0 +ℤ pos n))) (λ v. EachCut (λ w. w ≤ℤ (v +ℤ pos n)) t)
    (λ v at_v. each_cut-map (λ w. (h.0 ≤ℤ w) × (w ≤ℤ (h.0 +ℤ pos n))) (λ w. w ≤ℤ (v +ℤ pos n)) (λ w at_w. let x = at_v.0 in let y = at_w.1 in omega (arith, ints)) t h.1) t h.1

decides-near : (x y : ℤ) → Decides (not (int_lt x y)) (y ≤ℤ x)
decides-near x y = elim (int_lt-tells x y) [
  | inl less ↦ (λ e. let no : not true ≡ true = ap not (sym less.0) ∙ e in cc, λ h. let k = less.1 in absurd (omega (arith, ints)))
  | inr more ↦ (λ e. more.1, λ h. ap not more.0)
]

pub decides-cuts_within : (n : ℕ) (t : Shape Leaf) → Decides (cuts_within n t) (CutsWithin n t)
decides-cuts_within n t =
    let pairs = decides-each_cut {P = λ v. EachCut (λ w. w ≤ℤ (v +ℤ pos n)) t} (λ v. each_cut (λ w. not (int_lt (v +ℤ pos n) w)) t) (λ v. decides-each_cut {P = λ w. w ≤ℤ (v +ℤ pos n)} (λ w. not (int_lt (v +ℤ pos n) w)) (λ w. decides-near (v +ℤ pos n) w) t) t in
    (λ e. within-pairs n t (pairs.0 e), λ h. pairs.1 (pairs-within n t h))

-- ---- leaves that are reached

none_within : (low high : ℤ) (t : Shape Leaf) → high <ℤ low → leaves_within low high t ≡ 0
none_within low high (leaf l) h = rw (above high low h)
none_within low high (decision q v a b) h =
    let l = none_within (int_max low (v +ℤ pos 1)) high a (omega (arith, ints, clamps)) in
    let r = none_within low (int_min high v) b (omega (arith, ints, clamps)) in
    omega arith

-- each leaf but the first needs a cut
few_within : (p : ℕ) (low high : ℤ) (t : Shape Leaf) → TestsOnly p t → low ≤ℤ high → leaves_within low high t ≤ length (cuts p low high t) + 1
few_within p low high (leaf l) only h = rw (not_above high low h) (omega arith)
few_within p low high (decision q v a b) only h =
    let at_p : leaves_within low high (decision p v a b) ≤ length (cuts p low high (decision p v a b)) + 1 =
    elim (int_lt-tells v low) [
      | inl up ↦
          let u = up.1 in
          let first : int_max low (v +ℤ pos 1) ≡ low = omega (arith, ints, clamps) in
          let none = none_within low (int_min high v) b (omega (arith, ints, clamps)) in
          let few = few_within p low high a only.1.0 h in
          let same = ap (λ x. leaves_within x high a) first in
          let is = ap length (cuts_above p low high v a b up.1) in
          omega arith
      | inr down ↦ elim (int_lt-tells v high) [
        | inr over ↦
            let o = over.1 in
            let last : int_min high v ≡ high = omega (arith, ints, clamps) in
            let none = none_within (int_max low (v +ℤ pos 1)) high a (omega (arith, ints, clamps)) in
            let few = few_within p low high b only.1.1 h in
            let same = ap (λ x. leaves_within low x b) last in
            let is = ap length (cuts_below p low high v a b down.1 over.1) in
            omega arith
        | inl inside ↦
            let d = down.1 in
            let i = inside.1 in
            let first : int_max low (v +ℤ pos 1) ≡ (v +ℤ pos 1) = omega (arith, ints, clamps) in
            let last : int_min high v ≡ v = omega (arith, ints, clamps) in
            let left = few_within p (v +ℤ pos 1) high a only.1.0 (omega (arith, ints)) in
            let right = few_within p low v b only.1.1 down.1 in
            let same_left = ap (λ x. leaves_within x high a) first in
            let same_right = ap (λ x. leaves_within low x b) last in
            let is = ap length (cuts_between p low high v a b down.1 inside.1) in
            let sum = length-append (cuts p low v b) (v ∷ cuts p (v +ℤ pos 1) high a) in
            omega arith
      ]
    ]
    in
    subst (λ k. leaves_within low high (decision k v a b) ≤ length (cuts p low high (decision k v a b)) + 1) (sym only.0) at_p

-- a tree that passes the tests is one that a table serves
pub tabular : (p : ℕ) (t : Shape Leaf) → is_tabular p t ≡ true → Tabular p t
tabular p t e =
    let one = and-tells (nat_lt 1 p && nat_lt p 16) ((tests_only p t && cuts_within 1022 t) && (nat_lt 3 (leaves_within least greatest t) && each_leaf (are_alike (leftmost t)) t)) e in
    let numbers = and-tells (nat_lt 1 p) (nat_lt p 16) one.0 in
    let two = and-tells (tests_only p t && cuts_within 1022 t) (nat_lt 3 (leaves_within least greatest t) && each_leaf (are_alike (leftmost t)) t) one.1 in
    let tests = and-tells (tests_only p t) (cuts_within 1022 t) two.0 in
    let leaves = and-tells (nat_lt 3 (leaves_within least greatest t)) (each_leaf (are_alike (leftmost t)) t) two.1 in
    let only = (decides-tests_only p t).0 tests.0 in
    let four = (Decides-ltb 3 (leaves_within least greatest t)).0 leaves.0 in
    let few = few_within p least greatest t only (omega (arith, ints)) in
    record {
      from = (Decides-ltb 1 p).0 numbers.0;
      to = let h = (Decides-ltb p 16).0 numbers.1 in omega arith;
      only = only;
      table = cuts-table p t only ((decides-cuts_within 1022 t).0 tests.1) (omega arith);
      leaf = leftmost t;
      agree = (decides-each_leaf {P = λ m. m ≡ in_cluster m.cluster (leftmost t)} (are_alike (leftmost t)) (decides-alike (leftmost t)) t).0 leaves.1;
    }

pub tabular-leaf : (p : ℕ) (t : Shape Leaf) (e : is_tabular p t ≡ true) → (tabular p t e).leaf ≡ leftmost t
unfolding tabular
tabular-leaf p t e = refl

-- ---- the bound

some_steps : (b : Bool) (n : ℕ) → 1 ≤ cond b 1 (n + 1)
some_steps true n = omega arith
some_steps false n = omega arith

pub table_steps : (t : Shape Leaf) → ((l : Leaf) → t ≡ leaf l → ⊥) → 1 ≤ most_steps t
table_steps (leaf l) never = absurd (never l refl)
table_steps (decision p v a b) never = some_steps (is_tabular p (decision p v a b)) (depth (decision p v a b))

all_steps : (b : Bool) (n : ℕ) → (b ≡ true → ⊥) → n + 1 ≤ cond b 1 (n + 1)
all_steps true n never = absurd (never refl)
all_steps false n never = omega arith

one_step : (b : Bool) → b ≡ false → 1 ≤ cond b 0 1
one_step true e = cc
one_step false e = omega arith

pub tree_steps : (t : Shape Leaf) → ((l : Leaf) → t ≡ leaf l → (number_of l.predictor == 0 || plain_gradient l) ≡ false) → ((p : ℕ) → is_tabular p t ≡ true → ⊥) → depth t + 1 ≤ most_steps t
tree_steps (leaf l) quick never = one_step (number_of l.predictor == 0 || plain_gradient l) (quick l refl)
tree_steps (decision p v a b) quick never = all_steps (is_tabular p (decision p v a b)) (depth (decision p v a b)) (never p)
