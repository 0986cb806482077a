-- A tree of one property with near cuts and four leaves is a table.
use Rattle.std.proofs.Common.{◌≡◌, ℕ, ◌+◌, ◌<◌, ◌≤◌, ℤ, pos, ◌+ℤ◌, ◌<ℤ◌, ◌≤ℤ◌, true, false, cond, ltb, List, [], ◌∷◌, ◌++◌, length, IsSome, None, refl, sym, ap, ◌∙◌, subst, arith, inl, inr}
use Rattle.std.specs.Prelude.{int_lt}
use Rattle.std.specs.Int.{int_min, int_max}
use Rattle.std.proofs.lemmas.Int.{ints, clamps}
use Rattle.std.proofs.lemmas.Bool.Decides.{nat_tests}
use Rattle.jxlm_ma_tree.specs.declared.marks.Survey.{Survey}
use Rattle.jxlm_ma_tree.specs.declared.marks.Known.{Known}
use Rattle.jxlm_ma_tree.specs.declared.leaf.Leaf.{Leaf}
use Rattle.jxlm_ma_tree.specs.Tree.{Shape, leaf, decision}
use Rattle.jxlm_tree.specs.ShortTrees.{TestsOnly, EachCut, CutsWithin, way, Reaches}
use Rattle.jxlm_ma_tree.specs.Pruned.{known, pruned, taken}
use Rattle.jxlm_ma_tree.specs.Cuts.{cuts, surveyed, unsurveyed, worth, least, greatest}
use Rattle.jxlm_tree.specs.Inner.FlatNodes.{IsTable}
use Rattle.jxlm_ma_tree.proofs.Comparing.{above, not_above, int_lt-tells}
use Rattle.jxlm_ma_tree.specs.Marked.{Each}
use Rattle.jxlm_ma_tree.proofs.CutLists.{Each-map, cuts_above, cuts_between, cuts_below, surveyed-cuts}
use Rattle.jxlm_tree.proofs.FlatTables.{Alike}

Each-front : (P : ℤ → Type 0) (xs ys : List ℤ) → Each P (xs ++ ys) → Each P xs
Each-front P [] ys h = tt
Each-front P (x ∷ xs) ys h = (h.0, Each-front P xs ys h.1)

Each-back : (P : ℤ → Type 0) (xs ys : List ℤ) → Each P (xs ++ ys) → Each P ys
Each-back P [] ys h = h
Each-back P (x ∷ xs) ys h = Each-back P xs ys h.1

Each-both : (P : ℤ → Type 0) (xs ys : List ℤ) → Each P xs → Each P ys → Each P (xs ++ ys)
Each-both P [] ys h k = k
Each-both P (x ∷ xs) ys h k = (h.0, Each-both P xs ys h.1 k)

-- how many cuts lie below x
abbrev below : ℤ → List ℤ → ℕ
below x [] = 0
below x (v ∷ vs) = cond (int_lt v x) (below x vs + 1) (below x vs)

below-few : (x : ℤ) (vs : List ℤ) → below x vs ≤ length vs
below-few x [] = omega arith
below-few x (v ∷ vs) = let h = below-few x vs in elim (int_lt v x) as (λ t. cond t (below x vs + 1) (below x vs) ≤ length (v ∷ vs)) [ true ↦ omega arith | false ↦ omega arith ]

below-more : (x y : ℤ) (vs : List ℤ) → x ≤ℤ y → below x vs ≤ below y vs
below-more x y [] h = omega arith
below-more x y (v ∷ vs) h =
    let k = below-more x y vs h in
    elim (int_lt-tells v x) [
      | inl over ↦ rw (over.0, above v y (let q = over.1 in omega (arith, ints))) (omega arith)
      | inr under ↦ rw under.0 (elim (int_lt v y) as (λ t. below x vs ≤ cond t (below y vs + 1) (below y vs)) [ true ↦ omega arith | false ↦ k ])
    ]

-- where as many cuts lie below x as below y, each cut parts them alike
below-alike : (x y : ℤ) (vs : List ℤ) → x ≤ℤ y → below x vs ≡ below y vs → Each (Alike x y) vs
below-alike x y [] h e = tt
below-alike x y (v ∷ vs) h e =
    let k = below-more x y vs h in
    elim (int_lt-tells v x) [
      | inl over ↦
          let up = above v y (let q = over.1 in omega (arith, ints)) in
          let e2 : below x vs + 1 ≡ below y vs + 1 = rw (over.0, up) at e in
          (over.0 ∙ sym up, below-alike x y vs h (omega arith))
      | inr under ↦ elim (int_lt-tells v y) [
        | inl up ↦
            let e2 : below x vs ≡ below y vs + 1 = rw (under.0, up.0) at e in
            absurd (omega arith)
        | inr down ↦
            let e2 : below x vs ≡ below y vs = rw (under.0, down.0) at e in
            (under.0 ∙ sym down.0, below-alike x y vs h e2)
      ]
    ]

alike-back : (x y : ℤ) (vs : List ℤ) → Each (Alike y x) vs → Each (Alike x y) vs
alike-back x y vs h = Each-map (Alike y x) (Alike x y) (λ v e. sym e) vs h

-- values that no counted cut parts go the same way
pub way_left : (x v : ℤ) (q : ℕ) (a b : Shape Leaf) → v <ℤ x → way x (decision q v a b) ≡ true ∷ way x a
way_left x v q a b h = rw (above v x h)

pub way_right : (x v : ℤ) (q : ℕ) (a b : Shape Leaf) → x ≤ℤ v → way x (decision q v a b) ≡ false ∷ way x b
way_right x v q a b h = rw (not_above v x h)

way-same : (p : ℕ) (low high x y : ℤ) (t : Shape Leaf) → TestsOnly p t → low ≤ℤ x → x ≤ℤ high → low ≤ℤ y → y ≤ℤ high → Each (Alike x y) (cuts p low high t) → way x t ≡ way y t
way-same p low high x y (leaf l) only lx xh ly yh h = refl
way-same p low high x y (decision q v a b) only lx xh ly yh h =
    let hp : Each (Alike x y) (cuts p low high (decision p v a b)) = subst (λ k. Each (Alike x y) (cuts p low high (decision k v a b))) only.0 h in
    elim (int_lt-tells v low) [
      | inl up ↦
          let e : Each (Alike x y) (cuts p low high a) = subst (Each (Alike x y)) (cuts_above p low high v a b up.1) hp in
          let go = up.1 in
          way_left x v q a b (omega (arith, ints)) ∙ ap (λ w. true ∷ w) (way-same p low high x y a only.1.0 lx xh ly yh e) ∙ sym (way_left y v q a b (omega (arith, ints)))
      | inr down ↦ elim (int_lt-tells v high) [
        | inr over ↦
            let e : Each (Alike x y) (cuts p low high b) = subst (Each (Alike x y)) (cuts_below p low high v a b down.1 over.1) hp in
            let go = over.1 in
            way_right x v q a b (omega (arith, ints)) ∙ ap (λ w. false ∷ w) (way-same p low high x y b only.1.1 lx xh ly yh e) ∙ sym (way_right y v q a b (omega (arith, ints)))
        | inl inside ↦
            let e : Each (Alike x y) (cuts p low v b ++ v ∷ cuts p (v +ℤ pos 1) high a) = subst (Each (Alike x y)) (cuts_between p low high v a b down.1 inside.1) hp in
            let eb = Each-front (Alike x y) (cuts p low v b) (v ∷ cuts p (v +ℤ pos 1) high a) e in
            let ev : Each (Alike x y) (v ∷ cuts p (v +ℤ pos 1) high a) = Each-back (Alike x y) (cuts p low v b) (v ∷ cuts p (v +ℤ pos 1) high a) e in
            let like : int_lt v x ≡ int_lt v y = ev.0 in
            elim (int_lt-tells v x) [
              | inl xa ↦
                  let ya : v <ℤ y = grind (arith, ints) in
                  let xv = xa.1 in
                  way_left x v q a b xa.1 ∙ ap (λ w. true ∷ w) (way-same p (v +ℤ pos 1) high x y a only.1.0 (omega (arith, ints)) xh (omega (arith, ints)) yh ev.1) ∙ sym (way_left y v q a b ya)
              | inr xb ↦
                  let yb : y ≤ℤ v = grind (arith, ints) in
                  way_right x v q a b xb.1 ∙ ap (λ w. false ∷ w) (way-same p low v x y b only.1.1 lx xb.1 ly yb eb) ∙ sym (way_right y v q a b yb)
            ]
      ]
    ]

way-as_many : (p : ℕ) (x y : ℤ) (t : Shape Leaf) → TestsOnly p t → least ≤ℤ x → x ≤ℤ greatest → least ≤ℤ y → y ≤ℤ greatest → below x (cuts p least greatest t) ≡ below y (cuts p least greatest t) → way x t ≡ way y t
way-as_many p x y t only lx xg ly yg e = elim (int_lt-tells x y) [
  | inl less ↦ let h = less.1 in way-same p least greatest x y t only lx xg ly yg (below-alike x y (cuts p least greatest t) (omega (arith, ints)) e)
  | inr more ↦ way-same p least greatest x y t only lx xg ly yg (alike-back x y (cuts p least greatest t) (below-alike y x (cuts p least greatest t) more.1 (sym e)))
]

pub four_places : (a b c d n : ℕ) → a ≤ n → b ≤ n → c ≤ n → d ≤ n → (a ≡ b → ⊥) → (a ≡ c → ⊥) → (a ≡ d → ⊥) → (b ≡ c → ⊥) → (b ≡ d → ⊥) → (c ≡ d → ⊥) → 3 ≤ n
four_places a b c d n ha hb hc hd ab ac ad bc bd cd = grind arith

-- four leaves need three cuts
pub three_cuts : (p : ℕ) (t : Shape Leaf) → TestsOnly p t → Reaches 4 t → 3 ≤ length (cuts p least greatest t)
three_cuts p t only r =
    let xs = r.0 in
    let cs = cuts p least greatest t in
    let low = λ (k : ℕ). r.1.0.low k in
    let high : (k : ℕ) → xs k ≤ℤ greatest = λ k. let h = r.1.0.high k in omega (arith, ints) in
    let differ : (i j : ℕ) → i < j → j < 4 → below (xs i) cs ≡ below (xs j) cs → ⊥ = λ i j ij j4 e. r.1.1 i j ij j4 (way-as_many p (xs i) (xs j) t only (low i) (high i) (low j) (high j) e) in
    four_places (below (xs 0) cs) (below (xs 1) cs) (below (xs 2) cs) (below (xs 3) cs) (length cs) (below-few (xs 0) cs) (below-few (xs 1) cs) (below-few (xs 2) cs) (below-few (xs 3) cs)
    (differ 0 1 (omega arith) (omega arith)) (differ 0 2 (omega arith) (omega arith)) (differ 0 3 (omega arith) (omega arith)) (differ 1 2 (omega arith) (omega arith)) (differ 1 3 (omega arith) (omega arith)) (differ 2 3 (omega arith) (omega arith))

-- what holds of each cut holds of each that is counted
counted-are : (P : ℤ → Type 0) (p : ℕ) (low high : ℤ) (t : Shape Leaf) → TestsOnly p t → EachCut P t → Each P (cuts p low high t)
counted-are P p low high (leaf l) only h = tt
counted-are P p low high (decision q v a b) only h =
    let at_p : Each P (cuts p low high (decision p v a b)) =
    elim (int_lt-tells v low) [
      | inl up ↦ subst (Each P) (sym (cuts_above p low high v a b up.1)) (counted-are P p low high a only.1.0 h.1.0)
      | inr down ↦ elim (int_lt-tells v high) [
        | inr over ↦ subst (Each P) (sym (cuts_below p low high v a b down.1 over.1)) (counted-are P p low high b only.1.1 h.1.1)
        | inl inside ↦ subst (Each P) (sym (cuts_between p low high v a b down.1 inside.1))
            (Each-both P (cuts p low v b) (v ∷ cuts p (v +ℤ pos 1) high a) (counted-are P p low v b only.1.1 h.1.1) (h.0, counted-are P p (v +ℤ pos 1) high a only.1.0 h.1.0))
      ]
    ]
    in
    subst (λ k. Each P (cuts p low high (decision k v a b))) (sym only.0) at_p

-- counted cuts lie in the range
counted-in : (p : ℕ) (low high : ℤ) (t : Shape Leaf) → TestsOnly p t → Each (λ v. (low ≤ℤ v) × (v <ℤ high)) (cuts p low high t)
counted-in p low high (leaf l) only = tt
counted-in p low high (decision q v a b) only =
    let at_p : Each (λ v. (low ≤ℤ v) × (v <ℤ high)) (cuts p low high (decision p v a b)) =
    elim (int_lt-tells v low) [
      | inl up ↦ subst (Each (λ v. (low ≤ℤ v) × (v <ℤ high))) (sym (cuts_above p low high v a b up.1)) (counted-in p low high a only.1.0)
      | inr down ↦ elim (int_lt-tells v high) [
        | inr over ↦ subst (Each (λ v. (low ≤ℤ v) × (v <ℤ high))) (sym (cuts_below p low high v a b down.1 over.1)) (counted-in p low high b only.1.1)
        | inl inside ↦
            let dv = down.1 in
            let vi = inside.1 in
            subst (Each (λ v. (low ≤ℤ v) × (v <ℤ high))) (sym (cuts_between p low high v a b down.1 inside.1))
            (Each-both (λ v. (low ≤ℤ v) × (v <ℤ high)) (cuts p low v b) (v ∷ cuts p (v +ℤ pos 1) high a)
            (Each-map (λ u. (low ≤ℤ u) × (u <ℤ v)) (λ u. (low ≤ℤ u) × (u <ℤ high)) (λ u k. let k0 = k.0 in let k1 = k.1 in (k.0, omega (arith, ints))) (cuts p low v b) (counted-in p low v b only.1.1)) (
              (down.1, inside.1),
              Each-map (λ u. ((v +ℤ pos 1) ≤ℤ u) × (u <ℤ high)) (λ u. (low ≤ℤ u) × (u <ℤ high)) (λ u k. let k0 = k.0 in (omega (arith, ints), k.1)) (cuts p (v +ℤ pos 1) high a) (counted-in p (v +ℤ pos 1) high a only.1.0),
            ))
      ]
    ]
    in
    subst (λ k. Each (λ v. (low ≤ℤ v) × (v <ℤ high)) (cuts p low high (decision k v a b))) (sym only.0) at_p

-- what was surveyed stays in a range that holds all cuts
survey-in : (s : Survey) (m n : ℤ) (vs : List ℤ) → m ≤ℤ s.least → s.greatest ≤ℤ n → Each (λ v. (m ≤ℤ v) × (v ≤ℤ n)) vs → (m ≤ℤ (surveyed s vs).least) × ((surveyed s vs).greatest ≤ℤ n)
survey-in s m n [] l g h = (l, g)
survey-in s m n (v ∷ vs) l g h =
    let t : Survey = record { cuts = s.cuts + 1; least = int_min s.least v; greatest = int_max s.greatest v } in
    let mv = h.0.0 in
    let vn = h.0.1 in
    survey-in t m n vs (omega (arith, ints, clamps)) (omega (arith, ints, clamps)) h.1

some_cut : (P : ℤ → Type 0) (vs : List ℤ) → 0 < length vs → Each P vs → (v : ℤ) × P v
some_cut P [] h e = absurd (omega arith)
some_cut P (v ∷ vs) h e = (v, e.0)

pair : (P Q : ℤ → Type 0) (vs : List ℤ) → Each P vs → Each Q vs → Each (λ v. P v × Q v) vs
pair P Q [] h k = tt
pair P Q (v ∷ vs) h k = ((h.0, k.0), pair P Q vs h.1 k.1)

enough : (n : ℕ) → 3 ≤ n → ltb n 3 ≡ false
enough n h = grind (arith, nat_tests)

worth-it : (s : Survey) → 3 ≤ s.cuts → s.greatest ≤ℤ (s.least +ℤ pos 1022) → IsSome (worth s)
worth-it s h k = rw (enough s.cuts h, not_above (s.least +ℤ pos 1022) s.greatest k) refl

-- a tree of one property with near cuts, three of them or more, is a table
pub cuts-table : (p : ℕ) (t : Shape Leaf) → TestsOnly p t → CutsWithin 1022 t → 3 ≤ length (cuts p least greatest t) → IsTable t
cuts-table p (leaf l) only near many = absurd (omega arith)
cuts-table p (decision q v a b) only near many =
    let three : 3 ≤ length (cuts q least greatest (decision q v a b)) = subst (λ k. 3 ≤ length (cuts k least greatest (decision q v a b))) (sym only.0) many in
    let own : TestsOnly q (decision q v a b) = subst (λ m. TestsOnly m (decision q v a b)) (sym only.0) only in
    let cs = cuts q least greatest (decision q v a b) in
    let near_cs = counted-are (λ u. (near.0 ≤ℤ u) × (u ≤ℤ (near.0 +ℤ pos 1022))) q least greatest (decision q v a b) own near.1 in
    let in_cs = counted-in q least greatest (decision q v a b) own in
    let some = some_cut (λ u. ((near.0 ≤ℤ u) × (u ≤ℤ (near.0 +ℤ pos 1022))) × ((least ≤ℤ u) × (u <ℤ greatest))) cs (omega arith)
    (pair (λ u. (near.0 ≤ℤ u) × (u ≤ℤ (near.0 +ℤ pos 1022))) (λ u. (least ≤ℤ u) × (u <ℤ greatest)) cs near_cs in_cs) in
    let s1 = some.1.0.0 in
    let s2 = some.1.0.1 in
    let s3 = some.1.1.0 in
    let s4 = some.1.1.1 in
    let inside = survey-in unsurveyed near.0 (near.0 +ℤ pos 1022) cs (omega (arith, ints)) (omega (arith, ints)) near_cs in
    let i0 = inside.0 in
    let i1 = inside.1 in
    let count = surveyed-cuts unsurveyed cs in
    worth-it (surveyed unsurveyed cs) (omega arith) (omega (arith, ints))

-- such a tree is a table
pub near-is_table : (p : ℕ) (t : Shape Leaf) → TestsOnly p t → CutsWithin 1022 t → Reaches 4 t → IsTable t
near-is_table p t only near r = cuts-table p t only near (three_cuts p t only r)

-- no such tree is pruned
unknown : (pins : Known) (p : ℕ) → 2 ≤ p → p ≤ 15 → known pins p ≡ None
unknown pins p l h = grind (arith, nat_tests)

pub same-pruned : (pins : Known) (p : ℕ) (t : Shape Leaf) → 2 ≤ p → p ≤ 15 → TestsOnly p t → pruned pins t ≡ t
same-pruned pins p (leaf l) lp ph only = refl
same-pruned pins p (decision q v a b) lp ph only =
    let none : known pins q ≡ None = unknown pins q (let e = only.0 in omega arith) (let e = only.0 in omega arith) in
    ap (λ o. taken o q v (pruned pins a) (pruned pins b)) none
    ∙ ap (λ x. decision q v x (pruned pins b)) (same-pruned pins p a lp ph only.1.0)
    ∙ ap (λ x. decision q v a x) (same-pruned pins p b lp ph only.1.1)
