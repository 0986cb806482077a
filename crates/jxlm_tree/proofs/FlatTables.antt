-- x and y that no counted cut parts choose the same tree.
use Rattle.std.proofs.Common.{◌≡◌, ℕ, ◌+◌, ◌<◌, ◌≤◌, min, ℤ, pos, negsuc, ◌+ℤ◌, ◌-ℤ◌, ◌<ℤ◌, ◌≤ℤ◌, Bool, true, false, cond, ltb, List, [], ◌∷◌, ◌++◌, length, Some, None, refl, sym, ap, ◌∙◌, subst, arith, ◌⊎◌, inl, inr, length-append}
use Rattle.std.specs.Prelude.{int_lt, unsigned_abs}
use Rattle.std.specs.Int.{int_min, int_max}
use Rattle.std.proofs.lemmas.Int.{ints, clamps}
use Rattle.std.proofs.lemmas.Bool.Decides.{nat_tests}
use Rattle.jxlm_ma_tree.specs.declared.marks.Survey.{Survey}
use Rattle.jxlm_ma_tree.specs.declared.leaf.Leaf.{Leaf}
use Rattle.jxlm_ma_tree.specs.Tree.{Shape, leaf, decision}
use Rattle.jxlm_tree.specs.Inner.FlatShapes.{size}
use Rattle.jxlm_tree.specs.ShortTrees.{Avoids, MeetsOnce}
use Rattle.jxlm_tree.specs.Inner.Chosen.{chosen}
use Rattle.jxlm_ma_tree.specs.Cuts.{cuts, surveyed, unsurveyed, worth, tabled, least, greatest}
use Rattle.jxlm_ma_tree.specs.Marked.{Each}
use Rattle.jxlm_tree.specs.Inner.FlatNodes.{slot}
use Rattle.jxlm_ma_tree.proofs.Comparing.{above, not_above, int_lt-tells, eqb_is}
use Rattle.jxlm_tree.proofs.FlatWalks.{chosen_above, chosen_not_above, chosen-other}
use Rattle.jxlm_ma_tree.proofs.CutLists.{Each-back, cuts_above, cuts_below, cuts_between, cuts-other, Each-front}

-- a cut parts x and y alike
abbrev pub Alike : ℤ → ℤ → ℤ → Type 0
Alike x y v = int_lt v x ≡ int_lt v y

same-other : (p q : ℕ) (x y v : ℤ) (a b : Shape Leaf) → (q ≡ p → ⊥) → chosen p x (decision q v a b) ≡ chosen p y (decision q v a b)
same-other p q x y v a b h = chosen-other p q x v a b h ∙ sym (chosen-other p q y v a b h)

pub chosen-same : (p : ℕ) (low high x y : ℤ) (t : Shape Leaf) → low ≤ℤ x → x ≤ℤ high → low ≤ℤ y → y ≤ℤ high → Each (Alike x y) (cuts p low high t) → chosen p x t ≡ chosen p y t
chosen-same p low high x y (leaf l) lx xh ly yh h = refl
chosen-same p low high x y (decision q v a b) lx xh ly yh h = elim (eqb_is q p) [
  | inr differs ↦ same-other p q x y v a b differs
  | inl is ↦
      let at_p : chosen p x (decision p v a b) ≡ chosen p y (decision p v a b) =
      let hp : Each (Alike x y) (cuts p low high (decision p v a b)) = subst (λ k. Each (Alike x y) (cuts p low high (decision k v a b))) is h in
      elim (int_lt-tells v low) [
        | inl up ↦
            let e : Each (Alike x y) (cuts p low high a) = subst (Each (Alike x y)) (cuts_above p low high v a b up.1) hp in
            chosen_above p x v a b (omega (arith, ints)) ∙ chosen-same p low high x y a lx xh ly yh e ∙ sym (chosen_above p y v a b (omega (arith, ints)))
        | inr down ↦ elim (int_lt-tells v high) [
          | inr over ↦
              let e : Each (Alike x y) (cuts p low high b) = subst (Each (Alike x y)) (cuts_below p low high v a b down.1 over.1) hp in
              chosen_not_above p x v a b (omega (arith, ints)) ∙ chosen-same p low high x y b lx xh ly yh e ∙ sym (chosen_not_above p y v a b (omega (arith, ints)))
          | inl inside ↦
              let e : Each (Alike x y) (cuts p low v b ++ v ∷ cuts p (v +ℤ pos 1) high a) = subst (Each (Alike x y)) (cuts_between p low high v a b down.1 inside.1) hp in
              let eb : Each (Alike x y) (cuts p low v b) = Each-front (Alike x y) (cuts p low v b) (v ∷ cuts p (v +ℤ pos 1) high a) e in
              let ev : Each (Alike x y) (v ∷ cuts p (v +ℤ pos 1) high a) = Each-back (Alike x y) (cuts p low v b) (v ∷ cuts p (v +ℤ pos 1) high a) e in
              let like : int_lt v x ≡ int_lt v y = ev.0 in
              elim (int_lt-tells v x) [
                | inl xa ↦
                    let ya : v <ℤ y = grind (arith, ints) in
                    chosen_above p x v a b xa.1
                    ∙ chosen-same p (v +ℤ pos 1) high x y a (let k = xa.1 in omega (arith, ints)) xh (omega (arith, ints)) yh ev.1
                    ∙ sym (chosen_above p y v a b ya)
                | inr xb ↦
                    let yb : y ≤ℤ v = grind (arith, ints) in
                    chosen_not_above p x v a b xb.1
                    ∙ chosen-same p low v x y b lx xb.1 ly yb eb
                    ∙ sym (chosen_not_above p y v a b yb)
              ]
        ]
      ]
      in
      subst (λ k. chosen p x (decision k v a b) ≡ chosen p y (decision k v a b)) (sym is) at_p
]

-- what a survey says
pub surveyed-append : (s : Survey) (xs ys : List ℤ) → surveyed s (xs ++ ys) ≡ surveyed (surveyed s xs) ys
surveyed-append s [] ys = refl
surveyed-append s (x ∷ xs) ys = surveyed-append (record { cuts = s.cuts + 1; least = int_min s.least x; greatest = int_max s.greatest x }) xs ys

-- v lies in what was surveyed
abbrev pub Within : Survey → ℤ → Type 0
Within s v = (s.least ≤ℤ v) × (v ≤ℤ s.greatest)

pub surveyed-wider : (s : Survey) (xs : List ℤ) → ((surveyed s xs).least ≤ℤ s.least) × (s.greatest ≤ℤ (surveyed s xs).greatest)
surveyed-wider s [] = (omega (arith, ints), omega (arith, ints))
surveyed-wider s (x ∷ xs) =
    let h = surveyed-wider (record { cuts = s.cuts + 1; least = int_min s.least x; greatest = int_max s.greatest x }) xs in
    (omega (arith, ints, clamps), omega (arith, ints, clamps))

pub surveyed-within : (s : Survey) (xs : List ℤ) → Each (Within (surveyed s xs)) xs
surveyed-within s [] = tt
surveyed-within s (x ∷ xs) =
    let t : Survey = record { cuts = s.cuts + 1; least = int_min s.least x; greatest = int_max s.greatest x } in
    let h = surveyed-wider t xs in
    ((omega (arith, ints, clamps), omega (arith, ints, clamps)), surveyed-within t xs)

-- counted cuts are fewer than nodes
pub cuts-few : (p : ℕ) (low high : ℤ) (t : Shape Leaf) → length (cuts p low high t) < size t
cuts-few p low high (leaf l) = omega arith
cuts-few p low high (decision q v a b) = elim (eqb_is q p) [
  | inr differs ↦ rw (cuts-other p q low high v a b differs) (omega arith)
  | inl is ↦
      let at_p : length (cuts p low high (decision p v a b)) < size a + size b + 1 =
      elim (int_lt-tells v low) [
        | inl up ↦ let h = cuts-few p low high a in rw (cuts_above p low high v a b up.1) (omega arith)
        | inr down ↦ elim (int_lt-tells v high) [
          | inr over ↦ let h = cuts-few p low high b in rw (cuts_below p low high v a b down.1 over.1) (omega arith)
          | inl inside ↦
              let h = cuts-few p low v b in
              let k = cuts-few p (v +ℤ pos 1) high a in
              let l = length-append (cuts p low v b) (v ∷ cuts p (v +ℤ pos 1) high a) in
              rw (cuts_between p low high v a b down.1 inside.1) (omega arith)
        ]
      ]
      in
      subst (λ k. length (cuts p low high (decision k v a b)) < size a + size b + 1) (sym is) at_p
]

-- a path that meets no property twice has no table
none_avoided : (p : ℕ) (low high : ℤ) (t : Shape Leaf) → Avoids p t → cuts p low high t ≡ []
none_avoided p low high (leaf l) h = refl
none_avoided p low high (decision q v a b) h = cuts-other p q low high v a b h.0

few-none : (p : ℕ) (v : ℤ) (a b : Shape Leaf) (xs : List ℤ) → xs ≡ [] → worth (surveyed unsurveyed xs) ≡ None
few-none p v a b xs e = ap (λ ys. worth (surveyed unsurveyed ys)) e

few-one : (v : ℤ) (xs : List ℤ) → xs ≡ v ∷ [] → worth (surveyed unsurveyed xs) ≡ None
few-one v xs e = ap (λ ys. worth (surveyed unsurveyed ys)) e

pub once-not_table : (t : Shape Leaf) → MeetsOnce t → tabled t ≡ None
once-not_table (leaf l) h = refl
once-not_table (decision p v a b) h =
    let na : (l k : ℤ) → cuts p l k a ≡ [] = λ l k. none_avoided p l k a h.0.0 in
    let nb : (l k : ℤ) → cuts p l k b ≡ [] = λ l k. none_avoided p l k b h.0.1 in
    elim (int_lt-tells v least) [
      | inl up ↦ few-none p v a b (cuts p least greatest (decision p v a b)) (cuts_above p least greatest v a b up.1 ∙ na least greatest)
      | inr down ↦ elim (int_lt-tells v greatest) [
        | inr over ↦ few-none p v a b (cuts p least greatest (decision p v a b)) (cuts_below p least greatest v a b down.1 over.1 ∙ nb least greatest)
        | inl inside ↦
            few-one v (cuts p least greatest (decision p v a b))
            (cuts_between p least greatest v a b down.1 inside.1
            ∙ ap (λ ys. ys ++ v ∷ cuts p (v +ℤ pos 1) greatest a) (nb least v)
            ∙ ap (λ ys. v ∷ ys) (na (v +ℤ pos 1) greatest))
      ]
    ]

-- a table's survey
worth-go : (b c : Bool) (s r : Survey) → cond b None (cond c None (Some s)) ≡ Some r → ((b ≡ false) × (c ≡ false)) × (s ≡ r)
worth-go true c s r e = cc
worth-go false true s r e = cc
worth-go false false s r e = ((refl, refl), cc)

least_three : (n : ℕ) → ltb n 3 ≡ false → 3 ≤ n
least_three n h = grind (arith, nat_tests)

not_less : (v x : ℤ) → int_lt v x ≡ false → x ≤ℤ v
not_less v x h = elim (int_lt-tells v x) [ inl up ↦ cc (up.0, h) | inr down ↦ down.1 ]

pub worth-some : (s r : Survey) → worth s ≡ Some r → (s ≡ r) × (3 ≤ s.cuts) × (s.greatest ≤ℤ (s.least +ℤ pos 1022))
worth-some s r e =
    let g = worth-go (ltb s.cuts 3) (int_lt (s.least +ℤ pos 1022) s.greatest) s r e in
    (g.1, least_three s.cuts g.0.0, not_less (s.least +ℤ pos 1022) s.greatest g.0.1)

-- the value that stands for x in a table of low..=high
pub abs-pos : (z : ℤ) → pos 0 ≤ℤ z → pos (unsigned_abs z) ≡ z
abs-pos (pos n) h = refl
abs-pos (negsuc n) h = absurd (omega (arith, ints))

pub record Stands (low high x : ℤ) (k : ℕ) : Type 0 where
  pub y : ℤ
  pub low_y : low ≤ℤ y
  pub y_high : y ≤ℤ high
  pub place : pos k ≡ (pos 0 +ℤ (y -ℤ low))
  pub between : ((x ≤ℤ low) × (y ≡ low)) ⊎ (((low ≤ℤ x) × (x ≤ℤ high) × (y ≡ x)) ⊎ ((high ≤ℤ x) × (y ≡ high)))

pub slot-stands : (low high x : ℤ) (last : ℕ) → low ≤ℤ high → pos last ≡ (high -ℤ low) → Stands low high x (slot low last x)
slot-stands low high x last order e = elim (int_lt-tells low x) [
  | inr under ↦ rw under.0 (record { y = low; low_y = omega (arith, ints); y_high = order; place = omega (arith, ints); between = inl (under.1, refl) })
  | inl over ↦ elim (int_lt-tells high x) [
    | inl beyond ↦
        let a = abs-pos (x -ℤ low) (omega (arith, ints)) in
        let m : min (unsigned_abs (x -ℤ low)) last ≡ last = omega (arith, ints) in
        rw (over.0, m) (record { y = high; low_y = order; y_high = omega (arith, ints); place = omega (arith, ints); between = inr (inr (omega (arith, ints), refl)) })
    | inr inside ↦
        let a = abs-pos (x -ℤ low) (omega (arith, ints)) in
        let m : min (unsigned_abs (x -ℤ low)) last ≡ unsigned_abs (x -ℤ low) = omega (arith, ints) in
        rw (over.0, m) (record { y = x; low_y = omega (arith, ints); y_high = inside.1; place = omega (arith, ints); between = inr (inl (omega (arith, ints), inside.1, refl)) })
  ]
]

-- a cut from low to below high parts x and what stands for it alike
pub stands-alike : (low high x v : ℤ) (k : ℕ) (s : Stands low high x k) → low ≤ℤ v → v <ℤ high → Alike x s.y v
stands-alike low high x v k s lv vh = elim (int_lt-tells v x) [
  | inl over ↦ over.0 ∙ sym (above v s.y (let b = s.between in grind (arith, ints)))
  | inr under ↦ under.0 ∙ sym (not_above v s.y (let b = s.between in grind (arith, ints)))
]
