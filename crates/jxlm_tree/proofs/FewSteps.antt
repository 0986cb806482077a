-- Trees whose samples take one step, and leaves whose samples take none.
use Rattle.std.proofs.Common.{◌≡◌, ◌⊎◌, ℕ, ℤ, ◌+◌, ◌-◌, ◌<◌, ◌≤◌, ◌+ℤ◌, ◌<ℤ◌, ◌≤ℤ◌, pos, Bool, true, false, cond, ◌∷◌, refl, sym, ap, ◌∙◌, subst, arith, inl, inr}
use Rattle.std.proofs.lemmas.Bool.Decides.{Decides-eqb, Decides-int_eq, Decides-ltb}
use Rattle.std.proofs.lemmas.Int.{ints, clamps}
use Rattle.std.specs.Int.{int_min, int_max}
use Rattle.std.specs.Ordering.{int_eq}
use Rattle.std.specs.Prelude.{◌==◌, ◌&&◌, ◌||◌, int_lt, nat_lt}
use Rattle.jxlm_tree.specs.ClusterTables.{LeavesAgree, in_cluster}
use Rattle.jxlm_tree.specs.Paths.{IsPlainGradient}
use Rattle.jxlm_tree.specs.ShortTrees.{CutsWithin, Reaches, TestsOnly, way}
use Rattle.jxlm_tree.specs.Steps.{are_alike, cuts_within, each_leaf, is_tabular, leaves_within, leftmost, most_steps, plain_gradient, tests_only}
use Rattle.jxlm_ma_tree.specs.Tree.{AllLeaves, Shape, leaf, decision, depth}
use Rattle.jxlm_ma_tree.specs.Cuts.{greatest, least}
use Rattle.jxlm_ma_tree.specs.declared.leaf.Leaf.{Leaf}
use Rattle.jxlm_tree.proofs.FlatTrees.{each_leaf as all-leaves}
use Rattle.jxlm_tree.proofs.FlatTwo.{four_places, way_left, way_right}
use Rattle.jxlm_ma_tree.proofs.Comparing.{above, int_lt-tells, not_above}
use Rattle.jxlm_tree.proofs.MostSteps.{and-both, decides-alike, decides-cuts_within, decides-each_leaf, decides-tests_only}
use Rattle.jxlm_predictor.specs.declared.predictor.Predictor.TheVariants as predictor
use Rattle.jxlm_predictor.specs.Predictions.{number_of}

-- the place of the leaf that x reaches, among those that are counted
abbrev place : ℤ → ℤ → ℤ → Shape Leaf → ℕ
place x low high (leaf l) = 0
place x low high (decision q v a b) = cond (int_lt v x) (place x (int_max low (v +ℤ pos 1)) high a) (leaves_within (int_max low (v +ℤ pos 1)) high a + place x low (int_min high v) b)

place-left : (x low high v : ℤ) (q : ℕ) (a b : Shape Leaf) → v <ℤ x → place x low high (decision q v a b) ≡ place x (int_max low (v +ℤ pos 1)) high a
place-left x low high v q a b h = rw (above v x h)

place-right : (x low high v : ℤ) (q : ℕ) (a b : Shape Leaf) → x ≤ℤ v → place x low high (decision q v a b) ≡ leaves_within (int_max low (v +ℤ pos 1)) high a + place x low (int_min high v) b
place-right x low high v q a b h = rw (not_above v x h)

place-below : (x low high : ℤ) (t : Shape Leaf) → low ≤ℤ x → x ≤ℤ high → place x low high t < leaves_within low high t
place-below x low high (leaf l) h k = rw (not_above high low (omega (arith, ints))) (omega arith)
place-below x low high (decision q v a b) h k = elim (int_lt-tells v x) [
  | inl up ↦
      let u = up.1 in
      let is = place-left x low high v q a b up.1 in
      let below = place-below x (int_max low (v +ℤ pos 1)) high a (omega (arith, ints, clamps)) k in
      omega arith
  | inr down ↦
      let d = down.1 in
      let is = place-right x low high v q a b down.1 in
      let below = place-below x low (int_min high v) b h (omega (arith, ints, clamps)) in
      omega arith
]

-- numbers of one place go one way
place-way : (x y low high : ℤ) (t : Shape Leaf) → low ≤ℤ x → x ≤ℤ high → low ≤ℤ y → y ≤ℤ high → place x low high t ≡ place y low high t → way x t ≡ way y t
place-way x y low high (leaf l) xl xh yl yh e = refl
place-way x y low high (decision q v a b) xl xh yl yh e =
    let first : ℤ = int_max low (v +ℤ pos 1) in
    let last : ℤ = int_min high v in
    elim (int_lt-tells v x) [
      | inl xu ↦
          let x1 = xu.1 in
          let at_x = place-left x low high v q a b xu.1 in
          let from_x : first ≤ℤ x = omega (arith, ints, clamps) in
          elim (int_lt-tells v y) [
            | inl yu ↦
                let y1 = yu.1 in
                let from_y : first ≤ℤ y = omega (arith, ints, clamps) in
                way_left x v q a b xu.1 ∙ ap (λ w. true ∷ w) (place-way x y first high a from_x xh from_y yh (sym at_x ∙ e ∙ place-left y low high v q a b yu.1)) ∙ sym (way_left y v q a b yu.1)
            | inr yd ↦
                let at_y = place-right y low high v q a b yd.1 in
                let below = place-below x first high a from_x xh in
                absurd (omega arith)
          ]
      | inr xd ↦
          let x1 = xd.1 in
          let at_x = place-right x low high v q a b xd.1 in
          let to_x : x ≤ℤ last = omega (arith, ints, clamps) in
          elim (int_lt-tells v y) [
            | inl yu ↦
                let y1 = yu.1 in
                let at_y = place-left y low high v q a b yu.1 in
                let below = place-below y first high a (omega (arith, ints, clamps)) yh in
                absurd (omega arith)
            | inr yd ↦
                let y1 = yd.1 in
                let at_y = place-right y low high v q a b yd.1 in
                let to_y : y ≤ℤ last = omega (arith, ints, clamps) in
                way_right x v q a b xd.1 ∙ ap (λ w. false ∷ w) (place-way x y low last b xl to_x yl to_y (omega arith)) ∙ sym (way_right y v q a b yd.1)
          ]
    ]

four_leaves : (t : Shape Leaf) → Reaches 4 t → 3 < leaves_within least greatest t
four_leaves t r =
    let xs = r.0 in
    let n = leaves_within least greatest t in
    let at = λ (k : ℕ). place (xs k) least greatest t in
    let low = λ (k : ℕ). r.1.0.low k in
    let high : (k : ℕ) → xs k ≤ℤ greatest = λ k. let h = r.1.0.high k in omega (arith, ints) in
    let below : (k : ℕ) → at k < n = λ k. place-below (xs k) least greatest t (low k) (high k) in
    let few : (k : ℕ) → at k ≤ n - 1 = λ k. let h = below k in omega arith in
    let differ : (i j : ℕ) → i < j → j < 4 → at i ≡ at j → ⊥ = λ i j ij j4 e. r.1.1 i j ij j4 (place-way (xs i) (xs j) least greatest t (low i) (high i) (low j) (high j) e) in
    let some = below 0 in
    let three = four_places (at 0) (at 1) (at 2) (at 3) (n - 1) (few 0) (few 1) (few 2) (few 3)
    (differ 0 1 (omega arith) (omega arith)) (differ 0 2 (omega arith) (omega arith)) (differ 0 3 (omega arith) (omega arith)) (differ 1 2 (omega arith) (omega arith)) (differ 1 3 (omega arith) (omega arith)) (differ 2 3 (omega arith) (omega arith)) in
    omega arith

leftmost-agrees : (P : Leaf → Type 0) (t : Shape Leaf) → AllLeaves P t → P (leftmost t)
leftmost-agrees P (leaf l) h = h
leftmost-agrees P (decision q v a b) h = leftmost-agrees P a h.0

agree-leftmost : (t : Shape Leaf) → LeavesAgree t → AllLeaves (λ m. m ≡ in_cluster m.cluster (leftmost t)) t
agree-leftmost t h =
    let first = leftmost-agrees (λ m. m ≡ in_cluster m.cluster h.0) t h.1 in
    all-leaves {P = λ m. m ≡ in_cluster m.cluster h.0} {Q = λ m. m ≡ in_cluster m.cluster (leftmost t)} (λ m is. is ∙ ap (in_cluster m.cluster) (sym (ap (in_cluster h.0.cluster) first))) t h.1

cond-true : (b : Bool) (m n : ℕ) → b ≡ true → cond b m n ≡ m
cond-true b m n e = rw e

tests-pass : (p : ℕ) (t : Shape Leaf) → 2 ≤ p → p ≤ 15 → TestsOnly p t → CutsWithin 1022 t → Reaches 4 t → LeavesAgree t → is_tabular p t ≡ true
tests-pass p t from to only near four agree =
    and-both (nat_lt 1 p && nat_lt p 16) ((tests_only p t && cuts_within 1022 t) && (nat_lt 3 (leaves_within least greatest t) && each_leaf (are_alike (leftmost t)) t))
    (and-both (nat_lt 1 p) (nat_lt p 16) ((Decides-ltb 1 p).1 from) ((Decides-ltb p 16).1 (omega arith)))
    (and-both (tests_only p t && cuts_within 1022 t) (nat_lt 3 (leaves_within least greatest t) && each_leaf (are_alike (leftmost t)) t)
    (and-both (tests_only p t) (cuts_within 1022 t) ((decides-tests_only p t).1 only) ((decides-cuts_within 1022 t).1 near))
    (and-both (nat_lt 3 (leaves_within least greatest t)) (each_leaf (are_alike (leftmost t)) t) ((Decides-ltb 3 (leaves_within least greatest t)).1 (four_leaves t four))
    ((decides-each_leaf {P = λ m. m ≡ in_cluster m.cluster (leftmost t)} (are_alike (leftmost t)) (decides-alike (leftmost t)) t).1 (agree-leftmost t agree))))

pub one_step : (t : Shape Leaf) (p : ℕ) → 2 ≤ p → p ≤ 15 → TestsOnly p t → CutsWithin 1022 t → Reaches 4 t → LeavesAgree t → most_steps t ≡ 1
one_step (leaf l) p from to only near four agree = absurd (four.1.1 0 1 (omega arith) (omega arith) refl)
one_step (decision q v a b) p from to only near four agree =
    let is : q ≡ p = only.0 in
    cond-true (is_tabular q (decision q v a b)) 1 (depth (decision q v a b) + 1)
    (tests-pass q (decision q v a b) (omega arith) (omega arith) (subst (λ k. TestsOnly k (decision q v a b)) (sym is) only) near four agree)

or-first : (a b : Bool) → a ≡ true → (a || b) ≡ true
or-first a b e = rw e

or-second : (a b : Bool) → b ≡ true → (a || b) ≡ true
or-second true b e = refl
or-second false b e = e

pub no_step : (l : Leaf) → (l.predictor ≡ predictor.Zero) ⊎ IsPlainGradient l → most_steps (leaf l) ≡ 0
no_step l (inl zero) = cond-true (number_of l.predictor == 0 || plain_gradient l) 0 1 (or-first (number_of l.predictor == 0) (plain_gradient l) ((Decides-eqb (number_of l.predictor) 0).1 (ap number_of zero)))
no_step l (inr plain) = cond-true (number_of l.predictor == 0 || plain_gradient l) 0 1 (or-second (number_of l.predictor == 0) (plain_gradient l)
    (and-both (number_of l.predictor == 5) (int_eq l.offset (pos 0) && (l.multiplier == 1)) ((Decides-eqb (number_of l.predictor) 5).1 (ap number_of plain.0))
    (and-both (int_eq l.offset (pos 0)) (l.multiplier == 1) ((Decides-int_eq l.offset (pos 0)).1 plain.1.0) ((Decides-eqb l.multiplier 1).1 plain.1.1))))

at_most : (b : Bool) (m n : ℕ) → m ≤ n → cond b m n ≤ n
at_most true m n h = h
at_most false m n h = omega arith

pub no_more_steps : (t : Shape Leaf) → most_steps t ≤ depth t + 1
no_more_steps (leaf l) = at_most (number_of l.predictor == 0 || plain_gradient l) 0 1 (omega arith)
no_more_steps (decision p v a b) = at_most (is_tabular p (decision p v a b)) 1 (depth (decision p v a b) + 1) (omega arith)
