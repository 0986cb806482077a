-- The first leaf that no decision of a tree rules out is the one that is reached.
use Rattle.std.proofs.Common.{◌≡◌, ◌∙◌, ℕ, zero, suc, ℤ, pos, w32, ◌+◌, ◌-◌, ◌<◌, ◌≤◌, Bool, true, false, ◌||◌, List, [], ◌++◌, length, get_or, refl, sym, ap, ap₂, subst, arith, ◌⊎◌, inl, inr, None, Some, Option}
use Rattle.std.specs.Prelude.{◌*◌, ◌&&◌, not, int_lt, neg_ℤ, IfSome}
use Rattle.std.proofs.lemmas.Bool.{cases_lt, false≢true}
use Rattle.std.proofs.lemmas.Bool.Decides.{nat_tests}
use Rattle.std.proofs.lemmas.List.{length-append, get_or_append_left, get_or-append-add}
use Rattle.jxlm_ma_tree.specs.Tree.{AllLeaves, Shape, StandsAtLeaf, leaf, decision, depth, walk}
use Rattle.jxlm_ma_tree.specs.Pruned.{known, pruned, taken}
use Rattle.jxlm_tree.specs.FlatTree.{HasMultiplier, flat_tree}
use Rattle.std.specs.Int.{int_wrap}
use Rattle.std.specs.List.{list_all, range_with_len}
use Rattle.jxlm_tree.specs.Inner.Compiled.{known_at}
use Rattle.jxlm_ma_tree.specs.TreeShape.{shape_of}
use Rattle.jxlm_ma_tree.specs.declared.tree.MaTree.{MaTree}
use Rattle.jxlm_tree.proofs.FlatMade.{known_by}
use Rattle.jxlm_tree.specs.Inner.LeafSets.{AreOf, has_table, is_in_range, is_within, leaves_of, rules_out}
use Rattle.jxlm_tree.specs.LeafSets.{AreSetsOf, IsFirst, IsListed}
use Rattle.jxlm_tree.specs.SmallTrees.{FitsSets, TakesSets}
use Rattle.jxlm_tree.specs.SetTables.{has, set_for, stays}
use Rattle.jxlm_ma_tree.specs.declared.leaf.Leaf.{Leaf}
use Rattle.jxlm_tree.specs.declared.leaf_sets.LeafSets.{LeafSets}
use Rattle.jxlm_ma_tree.specs.declared.marks.Known.{Known}
use Rattle.jxlm_tree.specs.ClusterTables.{slot}
use Rattle.jxlm_tree.proofs.LeafBits.{AreTaken, table-kept, table-taken}
use Rattle.jxlm_tree.proofs.FlatCounts.{undecided-is}
use Rattle.jxlm_tree.proofs.FlatSteps.{walk-pruned}
use Rattle.jxlm_tree.proofs.FlatTrees.{standing_leaf}
use Rattle.jxlm_tree.proofs.FlatWalks.{pruned-stands}
use Rattle.jxlm_tree.proofs.SumTrees.{second_of}

-- one of three, or none
or-none : (x y z : Bool) → x ≡ false → y ≡ false → z ≡ false → (x || (y || z)) ≡ false
or-none x y z a b c = rw (a, b, c) refl

or-first : (x y z : Bool) → x ≡ true → (x || (y || z)) ≡ true
or-first x y z a = rw a refl

or-second : (x y z : Bool) → y ≡ true → (x || (y || z)) ≡ true
or-second true y z a = refl
or-second false y z a = rw a refl

or-third : (x y z : Bool) → z ≡ true → (x || (y || z)) ≡ true
or-third true y z a = refl
or-third false true z a = refl
or-third false false z a = a

or-tells : (x y z : Bool) → (x || (y || z)) ≡ true → (x ≡ true) ⊎ ((y ≡ true) ⊎ (z ≡ true))
or-tells true y z h = inl refl
or-tells false true z h = inr (inl refl)
or-tells false false z h = inr (inr h)

-- the two numbers between which a leaf is
within-from : (first end i : ℕ) → is_within first end i ≡ true → first ≤ i
within-from first end i h = grind (arith, nat_tests)

within-end : (first end i : ℕ) → is_within first end i ≡ true → i < end
within-end first end i h = grind (arith, nat_tests)

within-is : (first end i : ℕ) → first ≤ i → i < end → is_within first end i ≡ true
within-is first end i from less = grind (arith, nat_tests)

within-above : (first end i : ℕ) → end ≤ i → is_within first end i ≡ false
within-above first end i more = grind (arith, nat_tests)

pub some-leaves : (t : Shape Leaf) → 0 < length (leaves_of t)
some-leaves (leaf l) = omega arith
some-leaves (decision p v a b) = let n = length-append (leaves_of a) (leaves_of b) in let s = some-leaves a in omega arith

-- what is ruled out is a leaf of the tree, and not the last one
pub record Rules (first : ℕ) (t : Shape Leaf) (i : ℕ) : Type 0 where
  pub from : first ≤ i
  pub before : i + 1 < first + length (leaves_of t)

rules-within : (first : ℕ) (t : Shape Leaf) (f : ℕ → ℤ) (i : ℕ) → rules_out first t f i ≡ true → Rules first t i
rules-within first (leaf l) f i h = absurd (false≢true h)
rules-within first (decision p v a b) f i h =
    let n = length-append (leaves_of a) (leaves_of b) in
    let some_a = some-leaves a in
    let some_b = some-leaves b in
    elim (or-tells (not (int_lt v (f p)) && is_within first (first + length (leaves_of a)) i) (rules_out first a f i) (rules_out (first + length (leaves_of a)) b f i) h) [
      | inl here ↦
          let is = second_of (not (int_lt v (f p))) (is_within first (first + length (leaves_of a)) i) here in
          let from = within-from first (first + length (leaves_of a)) i is in
          let less = within-end first (first + length (leaves_of a)) i is in
          record { from = from; before = omega arith }
      | inr below ↦ elim below [
        | inl left ↦ let r = rules-within first a f i left in record { from = r.from; before = let e = r.before in omega arith }
        | inr right ↦ let r = rules-within (first + length (leaves_of a)) b f i right in record { from = let e = r.from in omega arith; before = let e = r.before in omega arith }
      ]
    ]

-- no other leaf is
not-ruled : (first : ℕ) (t : Shape Leaf) (f : ℕ → ℤ) (i : ℕ) → (i < first) ⊎ (first + length (leaves_of t) ≤ i + 1) → rules_out first t f i ≡ false
not-ruled first t f i out = either (rules_out first t f i) refl where
  either : (b : Bool) → rules_out first t f i ≡ b → rules_out first t f i ≡ false
  either false is = is
  either true is =
      let r = rules-within first t f i is in
      elim out [ inl below ↦ absurd (let e = r.from in omega arith) | inr above ↦ absurd (let e = r.before in omega arith) ]

pub last-left : (t : Shape Leaf) (f : ℕ → ℤ) → rules_out 0 t f (length (leaves_of t) - 1) ≡ false
last-left t f = let s = some-leaves t in not-ruled 0 t f (length (leaves_of t) - 1) (inr (omega arith))

-- the first leaf that is not ruled out, of those from `first` on
pub record Found (first : ℕ) (t : Shape Leaf) (f : ℕ → ℤ) : Type 0 where
  pub place : ℕ
  pub within : place < length (leaves_of t)
  pub left_over : rules_out first t f (first + place) ≡ false
  pub none_before : (j : ℕ) → first ≤ j → j < first + place → rules_out first t f j ≡ true
  pub leaf : (y : Leaf) → get_or (leaves_of t) place y ≡ walk t f

found-left : (first p : ℕ) (v : ℤ) (a b : Shape Leaf) (f : ℕ → ℤ) → int_lt v (f p) ≡ true → Found first a f → Found first (decision p v a b) f
found-left first p v a b f goes r =
    let n = length-append (leaves_of a) (leaves_of b) in
    let w = r.within in
    let here : (not (int_lt v (f p)) && is_within first (first + length (leaves_of a)) (first + r.place)) ≡ false = rw goes refl in
    record {
      place = r.place;
      within = omega arith;
      left_over = or-none _ _ _ here r.left_over (not-ruled (first + length (leaves_of a)) b f (first + r.place) (inl (omega arith)));
      none_before = λ j from less. or-second _ _ _ (r.none_before j from less);
      leaf = λ y. get_or_append_left (leaves_of a) (leaves_of b) y r.place w ∙ r.leaf y ∙ rw goes refl;
    }

found-right : (first p : ℕ) (v : ℤ) (a b : Shape Leaf) (f : ℕ → ℤ) → int_lt v (f p) ≡ false → Found (first + length (leaves_of a)) b f → Found first (decision p v a b) f
found-right first p v a b f goes r =
    let n = length-append (leaves_of a) (leaves_of b) in
    let w = r.within in
    let k = length (leaves_of a) in
    let place_is : first + (k + r.place) ≡ first + k + r.place = omega arith in
    let here : (not (int_lt v (f p)) && is_within first (first + k) (first + (k + r.place))) ≡ false =
    rw goes (within-above first (first + k) (first + (k + r.place)) (omega arith)) in
    record {
      place = k + r.place;
      within = omega arith;
      left_over = or-none _ _ _ here (not-ruled first a f (first + (k + r.place)) (inr (omega arith)))
          (ap (rules_out (first + k) b f) place_is ∙ r.left_over);
      none_before = λ j from less. ruled j from less (cases_lt j (first + k));
      leaf = λ y. get_or-append-add (leaves_of a) (leaves_of b) r.place y ∙ r.leaf y ∙ rw goes refl;
    }
  where
    ruled : (j : ℕ) → first ≤ j → j < first + (length (leaves_of a) + r.place) → (j < first + length (leaves_of a)) ⊎ (first + length (leaves_of a) ≤ j) → rules_out first (decision p v a b) f j ≡ true
    ruled j from less (inl left) =
        let here : (not (int_lt v (f p)) && is_within first (first + length (leaves_of a)) j) ≡ true = rw goes (within-is first (first + length (leaves_of a)) j from left) in
        or-first (not (int_lt v (f p)) && is_within first (first + length (leaves_of a)) j) (rules_out first a f j) (rules_out (first + length (leaves_of a)) b f j) here
    ruled j from less (inr right) =
        or-third (not (int_lt v (f p)) && is_within first (first + length (leaves_of a)) j) (rules_out first a f j) (rules_out (first + length (leaves_of a)) b f j) (r.none_before j right (omega arith))

pub found : (first : ℕ) (t : Shape Leaf) (f : ℕ → ℤ) → Found first t f
found first (leaf l) f =
    record { place = 0; within = omega arith; left_over = refl; none_before = λ j from less. absurd (omega arith); leaf = λ y. refl }
found first (decision p v a b) f = either (int_lt v (f p)) refl (found first a f) (found (first + length (leaves_of a)) b f) where
  either : (g : Bool) → int_lt v (f p) ≡ g → Found first a f → Found (first + length (leaves_of a)) b f → Found first (decision p v a b) f
  either true goes l r = found-left first p v a b f goes l
  either false goes l r = found-right first p v a b f goes r

first-at : (t : Shape Leaf) (n : ℕ) (s : LeafSets) (f : ℕ → ℤ) (l : Leaf) → AreOf t n s → IsFirst s.sets.items s.leaves.items f l → Found 0 t f → l ≡ walk t f
first-at t n s f l are first r = either (cases_lt first.place r.place) (cases_lt r.place first.place) where
  none : true ≡ false → l ≡ walk t f
  none h = cc

  either : (first.place < r.place) ⊎ (r.place ≤ first.place) → (r.place < first.place) ⊎ (first.place ≤ r.place) → l ≡ walk t f
  either (inl less) other =
      let out = r.none_before first.place (omega arith) (omega arith) in
      none (sym first.left_over ∙ are.stays f first.place first.within ∙ ap not out)
  either (inr from) (inl less) =
      let w = r.within in
      let few = ap (λ (xs : List Leaf). length xs) are.leaves in
      let most = are.few in
      let zero_is : 0 + r.place ≡ r.place = omega arith in
      let stays_is = are.stays f r.place (omega arith) ∙ ap not (sym (ap (rules_out 0 t f) zero_is) ∙ r.left_over) in
      none (sym stays_is ∙ first.none_before r.place less)
  either (inr from) (inr to) =
      let same : first.place ≡ r.place = omega arith in
      first.leaf ∙ ap (λ (xs : List Leaf). get_or xs first.place l) are.leaves ∙ ap (λ k. get_or (leaves_of t) k l) same ∙ r.leaf l

-- the leaf that sets of a tree's leaves give is the one to which the tree leads
pub first-reached : (t : Shape Leaf) (n : ℕ) (s : LeafSets) (f : ℕ → ℤ) (l : Leaf) → AreOf t n s → IsFirst s.sets.items s.leaves.items f l → l ≡ walk t f
first-reached t n s f l are first = first-at t n s f l are first (found 0 t f)

-- what holds of each leaf
pub each-stands : (t : Shape Leaf) (i : ℕ) (y : Leaf) → i < length (leaves_of t) → StandsAtLeaf t (get_or (leaves_of t) i y)
each-stands (leaf l) zero y less = refl
each-stands (leaf l) (suc i) y less = absurd (omega arith)
each-stands (decision p v a b) i y less =
    let n = length-append (leaves_of a) (leaves_of b) in
    elim (cases_lt i (length (leaves_of a))) [
      | inl left ↦ inl (subst (StandsAtLeaf a) (sym (get_or_append_left (leaves_of a) (leaves_of b) y i left)) (each-stands a i y left))
      | inr right ↦
          let k = i - length (leaves_of a) in
          let place : length (leaves_of a) + k ≡ i = omega arith in
          inr (subst (StandsAtLeaf b) (sym (get_or-append-add (leaves_of a) (leaves_of b) k y) ∙ ap (λ j. get_or (leaves_of a ++ leaves_of b) j y) place) (each-stands b k y (omega arith)))
    ]

pub listed-stands : (t : Shape Leaf) (n : ℕ) (s : LeafSets) (l : Leaf) → AreOf t n s → IsListed s.leaves.items l → StandsAtLeaf t l
listed-stands t n s l are listed =
    let e = listed.leaf ∙ ap (λ (xs : List Leaf). get_or xs listed.place l) are.leaves in
    let less : listed.place < length (leaves_of t) = subst (λ (xs : List Leaf). listed.place < length xs) are.leaves listed.within in
    subst (StandsAtLeaf t) (sym e) (each-stands t listed.place l less)

-- a conjunct moves
and-moves : (x y b : Bool) → ((x && b) && y) ≡ ((x && y) && b)
and-moves true true true = refl
and-moves true true false = refl
and-moves true false true = refl
and-moves true false false = refl
and-moves false y b = refl

and-joins : (x y b : Bool) → (x && (y && b)) ≡ ((x && y) && b)
and-joins true y b = refl
and-joins false y b = refl

-- n tables, from this one on, do not rule leaf i out
abbrev stays_from : ℕ → ℕ → List ℕ → (ℕ → ℤ) → ℕ → Bool
stays_from n table sets f i = list_all (λ k. has (set_for sets k (f (9 + k))) i) (range_with_len table n)

-- tables that are as before leave over what they did
stays-kept : (n table : ℕ) (old new : List ℕ) (f : ℕ → ℤ) (i : ℕ) → ((j : ℕ) → table ≤ j → j < table + n → has (set_for new j (f (9 + j))) i ≡ has (set_for old j (f (9 + j))) i) →
    stays_from n table new f i ≡ stays_from n table old f i
stays-kept zero table old new f i kept = refl
stays-kept (suc n) table old new f i kept =
    ap₂ (λ a b. a && b) (kept table (omega arith) (omega arith)) (stays-kept n (table + 1) old new f i (λ j from less. kept j (omega arith) (omega arith)))

-- one table that rules out more does so for all of them
stays-ruled : (n table own : ℕ) (old new : List ℕ) (f : ℕ → ℤ) (i : ℕ) (b : Bool) → table ≤ own → own < table + n →
    ((j : ℕ) → (j < own) ⊎ (own < j) → j < table + n → has (set_for new j (f (9 + j))) i ≡ has (set_for old j (f (9 + j))) i) →
    has (set_for new own (f (9 + own))) i ≡ (has (set_for old own (f (9 + own))) i && b) → stays_from n table new f i ≡ (stays_from n table old f i && b)
stays-ruled zero table own old new f i b from less kept here = absurd (omega arith)
stays-ruled (suc n) table own old new f i b from less kept here =
    either (cases_lt table own) (λ below. stays-ruled n (table + 1) own old new f i b (omega (arith, below)) (omega (arith, less)) (λ j apart upto. kept j apart (omega (arith, upto))) here)
  where
    either : (table < own) ⊎ (own ≤ table) → (table < own → stays_from n (table + 1) new f i ≡ (stays_from n (table + 1) old f i && b)) → stays_from (suc n) table new f i ≡ (stays_from (suc n) table old f i && b)
    either (inl below) rest =
        ap₂ (λ x y. x && y) (kept table (inl below) (omega arith)) (rest below)
        ∙ and-joins (has (set_for old table (f (9 + table))) i) (stays_from n (table + 1) old f i) b
    either (inr at) rest =
        let is : own ≡ table = omega (arith, at, from) in
        ap₂ (λ x y. x && y) (subst (λ k. has (set_for new k (f (9 + k))) i ≡ (has (set_for old k (f (9 + k))) i && b)) is here)
        (stays-kept n (table + 1) old new f i (λ j more upto. kept j (inr (omega (arith, more, is))) (omega (arith, upto))))
        ∙ and-moves (has (set_for old table (f (9 + table))) i) (stays_from n (table + 1) old f i) b

table-from : (p : ℕ) → has_table p ≡ true → 9 ≤ p
table-from p has = grind (arith, nat_tests)

table-before : (p : ℕ) → has_table p ≡ true → p < 16
table-before p has = grind (arith, nat_tests)

-- leaves that are taken out of the entries of a property's table are ruled out where it is not greater than the cut
pub ruled-tables : (old new : List ℕ) (leaves first end from last p : ℕ) (v : ℤ) (f : ℕ → ℤ) (i : ℕ) → is_in_range v ≡ true → has_table p ≡ true → length old ≡ 14336 →
    from ≡ (p - 9) * 2048 → last ≡ slot (neg_ℤ (pos 1024)) 2047 v → i < 64 → AreTaken old new from (from + last + 1) leaves → has leaves i ≡ is_within first end i →
    stays new f i ≡ (stays old f i && not (not (int_lt v (f p)) && is_within first end i))
ruled-tables old new leaves first end from last p v f i near tabled sized start at few taken are =
    let own = p - 9 in
    let lower = table-from p tabled in
    let upper = table-before p tabled in
    let within : own < 0 + 7 = omega (arith, lower, upper) in
    let is : 9 + own ≡ p = omega (arith, lower) in
    stays-ruled 7 0 own old new f i (not (not (int_lt v (f p)) && is_within first end i)) (omega arith) within
    (λ j apart less. table-kept old new leaves from last own j v (f (9 + j)) i sized (omega (arith, less)) start at few taken apart)
    (subst (λ k. has (set_for new own (f (9 + own))) i ≡ (has (set_for old own (f (9 + own))) i && not (not (int_lt v (f k)) && is_within first end i))) is
    (table-taken old new leaves first end from last own v (f (9 + own)) i near sized (omega (arith, within)) start at few taken are))

-- what three parts of a tree rule out, one after another
pub ruled-in-turn : (all less few least here left right : Bool) → less ≡ (all && not left) → few ≡ (less && not here) → least ≡ (few && not right) → least ≡ (all && not (here || (left || right)))
ruled-in-turn all less few least here left right a b c =
    c ∙ ap (λ x. x && not right) (b ∙ ap (λ x. x && not here) a) ∙ bits all here left right
  where
    bits : (s h l r : Bool) → (((s && not l) && not h) && not r) ≡ (s && not (h || (l || r)))
    bits false h l r = refl
    bits true true true r = refl
    bits true true false r = refl
    bits true false true r = refl
    bits true false false r = refl

-- what is left of a tree at a decision that is not known
pub pruned-open : (pins : Known) (p : ℕ) (v : ℤ) (a b : Shape Leaf) → known pins p ≡ None → pruned pins (decision p v a b) ≡ decision p v (pruned pins a) (pruned pins b)
pruned-open pins p v a b none = ap (λ o. taken o p v (pruned pins a) (pruned pins b)) none

-- the leaves of a decision, counted
pub leaves-of-both : (p : ℕ) (v : ℤ) (a b t : Shape Leaf) → t ≡ decision p v a b → length (leaves_of t) ≡ length (leaves_of a) + length (leaves_of b)
leaves-of-both p v a b t is = ap (λ u. length (leaves_of u)) is ∙ length-append (leaves_of a) (leaves_of b)

-- the sets of what is left of a tree are those of the flat tree
pub sets-of-flat : (t : Shape Leaf) (channel stream earlier : ℕ) (s : LeafSets) → AllLeaves HasMultiplier t → AreOf (pruned (known_at channel stream earlier) t) (depth t) s → AreSetsOf (flat_tree t channel stream earlier) s
sets-of-flat t channel stream earlier s multipliers are = record {
  leaf = λ f l first. first-reached (pruned (known_at channel stream earlier) t) (depth t) s f l are first ∙ walk-pruned t channel stream earlier f;
  stands = λ l listed. stands l listed;
  multiplier = λ l listed. standing_leaf HasMultiplier t l multipliers (stands l listed);
  deep = are.deep;
} where
  stands : (l : Leaf) → IsListed s.leaves.items l → StandsAtLeaf t l
  stands l listed = pruned-stands (known_at channel stream earlier) t l (listed-stands (pruned (known_at channel stream earlier) t) (depth t) s l are listed)

-- sets of all leaves leave the last one over
pub last-stays : (sets : List ℕ) (t : Shape Leaf) (f : ℕ → ℤ) (leaves : List Leaf) → leaves ≡ leaves_of t → length leaves ≤ 64 →
    ((i : ℕ) → i < 64 → stays sets f i ≡ not (rules_out 0 t f i)) → stays sets f (length leaves - 1) ≡ true
last-stays sets t f leaves are few each =
    let some = some-leaves t in
    let count = ap (λ (xs : List Leaf). length xs) are in
    each (length leaves - 1) (omega arith) ∙ ap not (ap (λ n. rules_out 0 t f (n - 1)) count ∙ last-left t f)

pub sets-made : (v r d : MaTree) (channel stream earlier : ℕ) (a b : ℤ) (o : Option LeafSets) → AllLeaves HasMultiplier (shape_of v.root) → r ≡ v → d ≡ v → a ≡ int_wrap w32 (pos channel) → b ≡ int_wrap w32 (pos stream) →
    IfSome o (AreOf (pruned (known_by a b earlier) (shape_of r.root)) d.depth) → IfSome o (AreSetsOf (flat_tree (shape_of v.root) channel stream earlier))
sets-made v r d channel stream earlier a b None multipliers root_is deep_is a_is b_is h = tt
sets-made v r d channel stream earlier a b (Some s) multipliers root_is deep_is a_is b_is h =
    sets-of-flat (shape_of v.root) channel stream earlier s multipliers
    (subst (λ (n : ℕ). AreOf (pruned (known_at channel stream earlier) (shape_of v.root)) n s) v.depth_is
    (subst (λ (u : MaTree). AreOf (pruned (known_at channel stream earlier) (shape_of v.root)) u.depth s) deep_is
    (subst (λ (u : MaTree). AreOf (pruned (known_at channel stream earlier) (shape_of u.root)) d.depth s) root_is
    (subst (λ (z : ℤ). AreOf (pruned (known_by (int_wrap w32 (pos channel)) z earlier) (shape_of r.root)) d.depth s) b_is
    (subst (λ (z : ℤ). AreOf (pruned (known_by z b earlier) (shape_of r.root)) d.depth s) a_is h)))))

-- a tree that is made into no sets
pub none-made : (v r d : MaTree) (channel stream earlier : ℕ) (a b : ℤ) (o : Option LeafSets) → r ≡ v → d ≡ v → a ≡ int_wrap w32 (pos channel) → b ≡ int_wrap w32 (pos stream) →
    (o ≡ None → FitsSets (pruned (known_by a b earlier) (shape_of r.root)) d.depth → ⊥) → o ≡ None → TakesSets (flat_tree (shape_of v.root) channel stream earlier) → ⊥
none-made v r d channel stream earlier a b o root_is deep_is a_is b_is h none takes =
    let left : FitsSets (pruned (known_at channel stream earlier) (shape_of v.root)) (depth (shape_of v.root)) =
    subst (λ (u : Shape Leaf). FitsSets u (depth (shape_of v.root))) (undecided-is (flat_tree (shape_of v.root) channel stream earlier) (shape_of v.root)) takes in
    h none
    (subst (λ (z : ℤ). FitsSets (pruned (known_by z b earlier) (shape_of r.root)) d.depth) (sym a_is)
    (subst (λ (z : ℤ). FitsSets (pruned (known_by (int_wrap w32 (pos channel)) z earlier) (shape_of r.root)) d.depth) (sym b_is)
    (subst (λ (u : MaTree). FitsSets (pruned (known_at channel stream earlier) (shape_of u.root)) d.depth) (sym root_is)
    (subst (λ (u : MaTree). FitsSets (pruned (known_at channel stream earlier) (shape_of v.root)) u.depth) (sym deep_is)
    (subst (λ (n : ℕ). FitsSets (pruned (known_at channel stream earlier) (shape_of v.root)) n) (sym v.depth_is) left)))))

-- the same with numbers that are read elsewhere
pub here-is : (v w x : ℤ) (a b c d i : ℕ) (few less : Bool) → w ≡ v → a ≡ c → b ≡ d → few ≡ (less && not (not (int_lt w x) && is_within a b i)) → few ≡ (less && not (not (int_lt v x) && is_within c d i))
here-is v w x a b c d i few less value_is first_is end_is h =
    h ∙ ap (λ (z : ℤ). less && not (not (int_lt z x) && is_within a b i)) value_is ∙ ap₂ (λ (n m : ℕ). less && not (not (int_lt v x) && is_within n m i)) first_is end_is

-- what a decision that is not known rules out, after its left side and before its right one
pub add-both : (pins : Known) (p : ℕ) (v : ℤ) (a b t : Shape Leaf) (f : ℕ → ℤ) (i first end : ℕ) (all less few least : Bool) → t ≡ decision p v a b → known pins p ≡ None →
    end ≡ first + length (leaves_of (pruned pins a)) → less ≡ (all && not (rules_out first (pruned pins a) f i)) → few ≡ (less && not (not (int_lt v (f p)) && is_within first end i)) →
    least ≡ (few && not (rules_out end (pruned pins b) f i)) → least ≡ (all && not (rules_out first (pruned pins t) f i))
add-both pins p v a b t f i first end all less few least is none at left here right =
    ruled-in-turn all less few least (not (int_lt v (f p)) && is_within first end i) (rules_out first (pruned pins a) f i) (rules_out end (pruned pins b) f i) left here right
    ∙ ap (λ n. all && not ((not (int_lt v (f p)) && is_within first n i) || (rules_out first (pruned pins a) f i || rules_out n (pruned pins b) f i))) at
    ∙ ap (λ (u : Shape Leaf). all && not (rules_out first u f i)) (sym (ap (pruned pins) is ∙ pruned-open pins p v a b none))

-- there is room for the leaves of its right side, once those of its left side are added
pub room-left : (pins : Known) (p : ℕ) (v : ℤ) (a b t : Shape Leaf) (first end : ℕ) → t ≡ decision p v a b → known pins p ≡ None → end ≡ first + length (leaves_of (pruned pins a)) →
    first + length (leaves_of (pruned pins t)) ≤ 64 → end < 64
room-left pins p v a b t first end is none at few =
    let count = leaves-of-both p v (pruned pins a) (pruned pins b) (pruned pins t) (ap (pruned pins) is ∙ pruned-open pins p v a b none) in
    let some = some-leaves (pruned pins b) in
    omega arith

-- the sets that are made from all leaves
pub are-made : (t : Shape Leaf) (depth : ℕ) (s : LeafSets) (sets : List ℕ) (leaves : List Leaf) → ((f : ℕ → ℤ) (i : ℕ) → i < 64 → stays sets f i ≡ true) → leaves ≡ [] → s.leaves.items ≡ leaves ++ leaves_of t → length (leaves_of t) ≤ 64 →
    ((f : ℕ → ℤ) (i : ℕ) → i < 64 → stays s.sets.items f i ≡ (stays sets f i && not (rules_out (length leaves) t f i))) → 7 ≤ depth → AreOf t depth s
are-made t depth s sets leaves whole none are few each deep =
    let all : s.leaves.items ≡ leaves_of t = are ∙ ap (λ (xs : List Leaf). xs ++ leaves_of t) none in
    record {
      leaves = all;
      few = let n = ap (λ (xs : List Leaf). length xs) all in omega arith;
      stays = λ f i less. each f i less ∙ ap₂ (λ (b : Bool) (ys : List Leaf). b && not (rules_out (length ys) t f i)) (whole f i less) none;
      deep = deep;
    }
