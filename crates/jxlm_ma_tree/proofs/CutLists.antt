-- Lists of cuts: in ascending order, split at a value, and surveyed.
use Rattle.std.proofs.Common.{◌≡◌, ℕ, ◌+◌, ◌<◌, ◌≤◌, ℤ, pos, ◌+ℤ◌, ◌<ℤ◌, ◌≤ℤ◌, Bool, true, false, ltb, List, [], ◌∷◌, ◌++◌, length, Some, None, refl, sym, ap, ◌∙◌, subst, arith, inl, inr, length-append, ◌-◌, Option, zero, suc}
use Rattle.std.specs.Prelude.{if◌then◌else◌, slice_index_or, take}
use Rattle.std.specs.Int.{int_min, int_max}
use Rattle.std.proofs.lemmas.Int.{ints, clamps}
use Rattle.std.proofs.lemmas.Bool.Decides.{nat_tests}
use Rattle.jxlm_ma_tree.specs.declared.marks.Survey.{Survey}
use Rattle.jxlm_ma_tree.specs.declared.leaf.Leaf.{Leaf}
use Rattle.jxlm_ma_tree.specs.Tree.{Shape, leaf, decision}
use Rattle.jxlm_ma_tree.specs.Cuts.{cuts, surveyed, unsurveyed, worth, tabled, least, greatest}
use Rattle.jxlm_ma_tree.specs.Marked.{Each, IsMarked, asks_for, marked_shape, root_cuts}
use Rattle.jxlm_ma_tree.proofs.Comparing.{above, not_above, int_lt-tells, eqb-same, eqb-not, eqb_is}
use Rattle.jxlm_ma_tree.specs.declared.marks.Marked.{Marked}
use Rattle.jxlm_ma_tree.specs.Inner.Ascending.{Ascends, LeavesAbove, LeavesBelow}

-- P of each cut
pub Each-front : (P : ℤ → Type 0) (xs ys : List ℤ) → Each P (xs ++ ys) → Each P xs
Each-front P [] ys h = tt
Each-front P (x ∷ xs) ys h = (h.0, Each-front P xs ys h.1)

pub Each-back : (P : ℤ → Type 0) (xs ys : List ℤ) → Each P (xs ++ ys) → Each P ys
Each-back P [] ys h = h
Each-back P (x ∷ xs) ys h = Each-back P xs ys h.1

pub Each-map : (P Q : ℤ → Type 0) → ((v : ℤ) → P v → Q v) → (xs : List ℤ) → Each P xs → Each Q xs
Each-map P Q f [] h = tt
Each-map P Q f (x ∷ xs) h = (f x h.0, Each-map P Q f xs h.1)

-- the cuts of a decision, case by case
pub cuts_above : (p : ℕ) (low high v : ℤ) (a b : Shape Leaf) → v <ℤ low → cuts p low high (decision p v a b) ≡ cuts p low high a
cuts_above p low high v a b h = rw (eqb-same p, above v low h)

pub cuts_between : (p : ℕ) (low high v : ℤ) (a b : Shape Leaf) → low ≤ℤ v → v <ℤ high → cuts p low high (decision p v a b) ≡ cuts p low v b ++ v ∷ cuts p (v +ℤ pos 1) high a
cuts_between p low high v a b h k = rw (eqb-same p, not_above v low h, above v high k)

pub cuts_below : (p : ℕ) (low high v : ℤ) (a b : Shape Leaf) → low ≤ℤ v → high ≤ℤ v → cuts p low high (decision p v a b) ≡ cuts p low high b
cuts_below p low high v a b h k = rw (eqb-same p, not_above v low h, not_above v high k)

pub cuts-other : (p q : ℕ) (low high v : ℤ) (a b : Shape Leaf) → (q ≡ p → ⊥) → cuts p low high (decision q v a b) ≡ []
cuts-other p q low high v a b h = rw (eqb-not q p h)

pub surveyed-cuts : (s : Survey) (xs : List ℤ) → (surveyed s xs).cuts ≡ s.cuts + length xs
surveyed-cuts s [] = omega arith
surveyed-cuts s (x ∷ xs) = let h = surveyed-cuts (record { cuts = s.cuts + 1; least = int_min s.least x; greatest = int_max s.greatest x }) xs in omega arith

joined-lists : (xs ys zs : List ℤ) → (xs ++ ys) ++ zs ≡ xs ++ (ys ++ zs)
joined-lists [] ys zs = refl
joined-lists (x ∷ xs) ys zs = ap (λ l. x ∷ l) (joined-lists xs ys zs)

Each-append : (P : ℤ → Type 0) (xs ys : List ℤ) → Each P xs → Each P ys → Each P (xs ++ ys)
Each-append P [] ys h k = k
Each-append P (x ∷ xs) ys h k = (h.0, Each-append P xs ys h.1 k)

-- ---- where cuts lie

abbrev pub From : ℤ → ℤ → ℤ → Type 0
From low high v = (low ≤ℤ v) × (v <ℤ high)

pub cuts-within : (p : ℕ) (low high : ℤ) (t : Shape Leaf) → Each (From low high) (cuts p low high t)
cuts-within p low high (leaf l) = tt
cuts-within p low high (decision q v a b) = elim (eqb_is q p) [
  | inr differs ↦ subst (Each (From low high)) (sym (cuts-other p q low high v a b differs)) tt
  | inl is ↦
      let at_p : Each (From low high) (cuts p low high (decision p v a b)) =
      elim (int_lt-tells v low) [
        | inl up ↦ subst (Each (From low high)) (sym (cuts_above p low high v a b up.1)) (cuts-within p low high a)
        | inr down ↦ elim (int_lt-tells v high) [
          | inr over ↦ subst (Each (From low high)) (sym (cuts_below p low high v a b down.1 over.1)) (cuts-within p low high b)
          | inl inside ↦
              let below = Each-map (From low v) (From low high) (λ w h. (h.0, (let k = h.1 in let i = inside.1 in omega (arith, ints)))) (cuts p low v b) (cuts-within p low v b) in
              let beyond = Each-map (From (v +ℤ pos 1) high) (From low high) (λ w h. ((let k = h.0 in let d = down.1 in omega (arith, ints)), h.1)) (cuts p (v +ℤ pos 1) high a) (cuts-within p (v +ℤ pos 1) high a) in
              subst (Each (From low high)) (sym (cuts_between p low high v a b down.1 inside.1))
              (Each-append (From low high) (cuts p low v b) (v ∷ cuts p (v +ℤ pos 1) high a) below ((down.1, inside.1), beyond))
        ]
      ]
      in
      subst (λ k. Each (From low high) (cuts p low high (decision k v a b))) (sym is) at_p
]

-- the cuts up to a value, and those from it on
pub cuts-split : (p : ℕ) (low mid high : ℤ) (t : Shape Leaf) → low ≤ℤ mid → mid ≤ℤ high → cuts p low high t ≡ cuts p low mid t ++ cuts p mid high t
cuts-split p low mid high (leaf l) h k = refl
cuts-split p low mid high (decision q v a b) h k = elim (eqb_is q p) [
  | inr differs ↦ cuts-other p q low high v a b differs ∙ sym (ap (λ l. l ++ cuts p mid high (decision q v a b)) (cuts-other p q low mid v a b differs) ∙ cuts-other p q mid high v a b differs)
  | inl is ↦
      let at_p : cuts p low high (decision p v a b) ≡ cuts p low mid (decision p v a b) ++ cuts p mid high (decision p v a b) =
      elim (int_lt-tells v low) [
        | inl up ↦
            let u = up.1 in
            rw (cuts_above p low high v a b u, cuts_above p low mid v a b u, cuts_above p mid high v a b (omega (arith, ints))) (cuts-split p low mid high a h k)
        | inr down ↦ elim (int_lt-tells v high) [
          | inr over ↦
              let o = over.1 in let d = down.1 in
              rw (cuts_below p low high v a b d o, cuts_below p low mid v a b d (omega (arith, ints)), cuts_below p mid high v a b (omega (arith, ints)) o) (cuts-split p low mid high b h k)
          | inl inside ↦
              let i = inside.1 in let d = down.1 in
              elim (int_lt-tells v mid) [
                | inl before ↦
                    let u = before.1 in
                    let rest = cuts-split p (v +ℤ pos 1) mid high a (omega (arith, ints)) k in
                    rw (cuts_between p low high v a b d i, cuts_between p low mid v a b d u, cuts_above p mid high v a b u)
                    (ap (λ l. cuts p low v b ++ v ∷ l) rest ∙ sym (joined-lists (cuts p low v b) (v ∷ cuts p (v +ℤ pos 1) mid a) (cuts p mid high a)))
                | inr after ↦
                    let u = after.1 in
                    let rest = cuts-split p low mid v b h u in
                    rw (cuts_between p low high v a b d i, cuts_below p low mid v a b d u, cuts_between p mid high v a b u i)
                    (ap (λ l. l ++ v ∷ cuts p (v +ℤ pos 1) high a) rest ∙ joined-lists (cuts p low mid b) (cuts p mid v b) (v ∷ cuts p (v +ℤ pos 1) high a))
              ]
        ]
      ]
      in
      subst (λ k. cuts p low high (decision k v a b) ≡ cuts p low mid (decision k v a b) ++ cuts p mid high (decision k v a b)) (sym is) at_p
]

ascends-around : (xs ys : List ℤ) (v : ℤ) → Ascends xs → Each (λ x. x <ℤ v) xs → Ascends ys → Each (λ y. v <ℤ y) ys → Ascends (xs ++ v ∷ ys)
ascends-around [] ys v ax hx ay hy = (hy, ay)
ascends-around (x ∷ xs) ys v ax hx ay hy =
    let h = hx.0 in
    (Each-append (λ w. x <ℤ w) xs (v ∷ ys) ax.0 (h, Each-map (λ y. v <ℤ y) (λ y. x <ℤ y) (λ y k. omega (arith, ints)) ys hy), ascends-around xs ys v ax.1 hx.1 ay hy)

pub cuts-ascend : (p : ℕ) (low high : ℤ) (t : Shape Leaf) → Ascends (cuts p low high t)
cuts-ascend p low high (leaf l) = tt
cuts-ascend p low high (decision q v a b) = elim (eqb_is q p) [
  | inr differs ↦ subst Ascends (sym (cuts-other p q low high v a b differs)) tt
  | inl is ↦
      let at_p : Ascends (cuts p low high (decision p v a b)) =
      elim (int_lt-tells v low) [
        | inl up ↦ subst Ascends (sym (cuts_above p low high v a b up.1)) (cuts-ascend p low high a)
        | inr down ↦ elim (int_lt-tells v high) [
          | inr over ↦ subst Ascends (sym (cuts_below p low high v a b down.1 over.1)) (cuts-ascend p low high b)
          | inl inside ↦
              subst Ascends (sym (cuts_between p low high v a b down.1 inside.1))
              (ascends-around (cuts p low v b) (cuts p (v +ℤ pos 1) high a) v (cuts-ascend p low v b)
              (Each-map (From low v) (λ x. x <ℤ v) (λ x h. h.1) (cuts p low v b) (cuts-within p low v b))
              (cuts-ascend p (v +ℤ pos 1) high a)
              (Each-map (From (v +ℤ pos 1) high) (λ y. v <ℤ y) (λ y h. let k = h.0 in omega (arith, ints)) (cuts p (v +ℤ pos 1) high a) (cuts-within p (v +ℤ pos 1) high a)))
        ]
      ]
      in
      subst (λ k. Ascends (cuts p low high (decision k v a b))) (sym is) at_p
]

pub root-ascends : (t : Shape Leaf) → Ascends (root_cuts t)
root-ascends (leaf l) = tt
root-ascends (decision p v a b) = cuts-ascend p least greatest (decision p v a b)

-- the cuts on a property are those of a root that asks for it
pub cuts-asked : (p : ℕ) (t : Shape Leaf) → asks_for p t ≡ true → cuts p least greatest t ≡ root_cuts t
cuts-asked p (leaf l) h = cc
cuts-asked p (decision q v a b) h = elim (eqb_is q p) [
  | inl is ↦ subst (λ k. cuts k least greatest (decision q v a b) ≡ root_cuts (decision q v a b)) is refl
  | inr differs ↦ cc (h, eqb-not q p differs)
]

pub cuts-unasked : (p : ℕ) (low high : ℤ) (t : Shape Leaf) → asks_for p t ≡ false → cuts p low high t ≡ []
cuts-unasked p low high (leaf l) h = refl
cuts-unasked p low high (decision q v a b) h = elim (eqb_is q p) [
  | inl is ↦ cc (h, subst (λ k. asks_for k (decision q v a b) ≡ true) is (eqb-same q))
  | inr differs ↦ cuts-other p q low high v a b differs
]

-- ---- a survey of cuts that ascend

abbrev pub the_survey : ℕ → ℤ → ℤ → Survey
the_survey n l g = record { cuts = n; least = l; greatest = g }

abbrev with_cut : Survey → ℤ → Survey
with_cut s x = record { cuts = s.cuts + 1; least = int_min s.least x; greatest = int_max s.greatest x }

least-stays : (s : Survey) (xs : List ℤ) → Each (λ y. s.least ≤ℤ y) xs → (surveyed s xs).least ≡ s.least
least-stays s [] h = refl
least-stays s (x ∷ xs) h =
    let k = h.0 in
    let same : (with_cut s x).least ≡ s.least = omega (arith, ints, clamps) in
    least-stays (with_cut s x) xs (Each-map (λ y. s.least ≤ℤ y) (λ y. (with_cut s x).least ≤ℤ y) (λ y m. omega (arith, ints)) xs h.1) ∙ same

least-first : (s : Survey) (x : ℤ) (xs : List ℤ) → x ≤ℤ s.least → Each (λ y. x <ℤ y) xs → (surveyed s (x ∷ xs)).least ≡ x
least-first s x xs at h =
    let same : (with_cut s x).least ≡ x = omega (arith, ints, clamps) in
    least-stays (with_cut s x) xs (Each-map (λ y. x <ℤ y) (λ y. (with_cut s x).least ≤ℤ y) (λ y m. omega (arith, ints)) xs h) ∙ same

greatest-last : (s : Survey) (x d : ℤ) (xs : List ℤ) → s.greatest ≤ℤ x → Ascends (x ∷ xs) → (surveyed s (x ∷ xs)).greatest ≡ slice_index_or (x ∷ xs) (length xs) d
greatest-last s x d [] at h = omega (arith, ints, clamps)
greatest-last s x d (y ∷ ys) at h =
    let k = h.0.0 in
    let below : (with_cut s x).greatest ≤ℤ y = omega (arith, ints, clamps) in
    greatest-last (with_cut s x) y d ys below h.1

the-survey : (s : Survey) (n : ℕ) (l g : ℤ) → s.cuts ≡ n → s.least ≡ l → s.greatest ≡ g → s ≡ record { cuts = n; least = l; greatest = g }
the-survey s n l g a b c = subst (λ m. s ≡ record { cuts = m; least = l; greatest = g }) a (subst (λ m. s ≡ record { cuts = s.cuts; least = m; greatest = g }) b (subst (λ m. s ≡ record { cuts = s.cuts; least = s.least; greatest = m }) c refl))

pub last-index : (x : ℤ) (xs : List ℤ) → length (x ∷ xs) - 1 ≡ length xs
last-index x xs = omega arith

-- the first is the least, the last the greatest
pub survey-is : (cs : List ℤ) (x z : ℤ) → Ascends cs → 0 < length cs → x ≤ℤ greatest → least ≤ℤ x → x ≡ slice_index_or cs 0 x → z ≡ slice_index_or cs (length cs - 1) z →
    surveyed unsurveyed cs ≡ record { cuts = length cs; least = x; greatest = z }
survey-is [] x z a some h k first last = absurd (omega arith)
survey-is (c ∷ cs) x z a some h k first last =
    let at : x ≡ c = first in
    let low : c ≤ℤ greatest = subst (λ y. y ≤ℤ greatest) at h in
    let high : least ≤ℤ c = subst (λ y. least ≤ℤ y) at k in
    let same : unsurveyed.cuts + length (c ∷ cs) ≡ length (c ∷ cs) = omega arith in
    the-survey (surveyed unsurveyed (c ∷ cs)) (length (c ∷ cs)) x z (surveyed-cuts unsurveyed (c ∷ cs) ∙ same) (least-first unsurveyed c cs low a.0 ∙ sym at)
    (greatest-last unsurveyed c z cs high a ∙ sym (last ∙ ap (λ n. slice_index_or (c ∷ cs) n z) (last-index c cs)))

-- ---- lists that lose their first or their last

pub record LastGone (P : ℤ → Type 0) (xs zs rest : List ℤ) : Type 0 where
  pub left : List ℤ
  pub is : rest ≡ xs ++ left
  pub each : Each P zs → Each P left

pub last-gone : (P : ℤ → Type 0) (v z : ℤ) (xs zs rest : List ℤ) → xs ++ zs ≡ rest ++ z ∷ [] → Each (λ c. c <ℤ v) xs → v ≤ℤ z → LastGone P xs zs rest
last-gone P v z [] zs rest e h at = record { left = rest; is = refl; each = λ k. Each-front P rest (z ∷ []) (subst (Each P) e k) }
last-gone P v z (x ∷ xs) zs [] e h at =
    let is : x ≡ z = cc in
    let k = h.0 in
    absurd (omega (arith, ints))
last-gone P v z (x ∷ xs) zs (r ∷ rest) e h at =
    let is : x ≡ r = cc in
    let tail : xs ++ zs ≡ rest ++ z ∷ [] = cc in
    let less = last-gone P v z xs zs rest tail h.1 at in
    record { left = less.left; is = ap (λ y. y ∷ rest) (sym is) ∙ ap (λ l. x ∷ l) less.is; each = less.each }

pub record FirstGone (P : ℤ → Type 0) (zs ys rest : List ℤ) : Type 0 where
  pub left : List ℤ
  pub is : rest ≡ left ++ ys
  pub each : Each P zs → Each P left

pub first-gone : (P : ℤ → Type 0) (v z : ℤ) (zs ys rest : List ℤ) → zs ++ ys ≡ z ∷ rest → Each (λ c. v <ℤ c) ys → z ≤ℤ v → FirstGone P zs ys rest
first-gone P v z [] [] rest e h at = cc
first-gone P v z [] (y ∷ ys) rest e h at =
    let is : y ≡ z = cc in
    let k = h.0 in
    absurd (omega (arith, ints))
first-gone P v z (x ∷ zs) ys rest e h at = record { left = zs; is = (let tail : zs ++ ys ≡ rest = cc in sym tail); each = λ k. k.1 }

-- the last of a list that is not empty
each-last : (P : ℤ → Type 0) (w d : ℤ) (ws : List ℤ) → Each P (w ∷ ws) → P (slice_index_or (w ∷ ws) (length ws) d)
each-last P w d [] h = h.0
each-last P w d (x ∷ ws) h = each-last P x d ws h.1

last-apart : (x d : ℤ) (xs : List ℤ) → x ∷ xs ≡ take (length xs) (x ∷ xs) ++ slice_index_or (x ∷ xs) (length xs) d ∷ []
last-apart x d [] = refl
last-apart x d (y ∷ ys) = ap (λ l. x ∷ l) (last-apart y d ys)

pub apart : (z : ℤ) (now : List ℤ) → 0 < length now → z ≡ slice_index_or now (length now - 1) z → now ≡ take (length now - 1) now ++ z ∷ []
apart z [] some at = absurd (omega arith)
apart z (x ∷ xs) some at =
    subst (λ n. x ∷ xs ≡ take n (x ∷ xs) ++ z ∷ []) (sym (last-index x xs))
    (last-apart x z xs ∙ ap (λ y. take (length xs) (x ∷ xs) ++ y ∷ []) (sym (at ∙ ap (λ n. slice_index_or (x ∷ xs) n z) (last-index x xs))))

last-of-two : (xs : List ℤ) (w d : ℤ) (ws : List ℤ) (n : ℕ) → n + 1 ≡ length (xs ++ w ∷ ws) → slice_index_or (xs ++ w ∷ ws) n d ≡ slice_index_or (w ∷ ws) (length ws) d
last-of-two [] w d ws n e = let is : n ≡ length ws = omega arith in ap (λ k. slice_index_or (w ∷ ws) k d) is
last-of-two (x ∷ xs) w d ws zero e = let l = length-append xs (w ∷ ws) in absurd (omega arith)
last-of-two (x ∷ xs) w d ws (suc n) e = let rest : n + 1 ≡ length (xs ++ w ∷ ws) = omega arith in last-of-two xs w d ws n rest

nothing-after : (l : List ℤ) → l ++ [] ≡ l
nothing-after [] = refl
nothing-after (x ∷ l) = ap (λ m. x ∷ m) (nothing-after l)

-- ---- loops that take cuts away

-- of the cuts that are to go some may be left
abbrev pub MayLeaveBelow : ℤ → List ℤ → List ℤ → Type 0
MayLeaveBelow v old now = (xs ys : List ℤ) → old ≡ xs ++ ys → Each (λ c. c <ℤ v) xs → Each (λ c. v ≤ℤ c) ys → (zs : List ℤ) × (now ≡ xs ++ zs) × Each (λ c. v ≤ℤ c) zs

pub below-start : (v : ℤ) (old : List ℤ) → MayLeaveBelow v old old
below-start v old = λ xs ys e h k. (ys, e, k)

pub below-step : (v v1 z : ℤ) (old now new : List ℤ) → v1 ≡ v → MayLeaveBelow v1 old now → now ≡ new ++ z ∷ [] → v ≤ℤ z → MayLeaveBelow v1 old new
below-step v v1 z old now new is may e at = λ xs ys o h k.
    let m = may xs ys o h k in
    let at1 : v1 ≤ℤ z = omega (arith, ints) in
    let less = last-gone (λ c. v1 ≤ℤ c) v1 z xs m.0 new (sym m.1 ∙ e) h at1 in
    (less.left, less.is, less.each m.2)

pub below-end : (v v1 z : ℤ) (old now : List ℤ) → v1 ≡ v → MayLeaveBelow v1 old now → z ≡ slice_index_or now (length now - 1) z → z <ℤ v → LeavesBelow v old now
below-end v v1 z old now is may at below = λ xs ys o h k.
    let m = subst (λ w. MayLeaveBelow w old now) is may xs ys o h k in
    ended m.0 m.1 m.2
  where
    ended : {xs : List ℤ} (zs : List ℤ) → now ≡ xs ++ zs → Each (λ c. v ≤ℤ c) zs → now ≡ xs
    ended {xs = xs} [] e each = e ∙ nothing-after xs
    ended {xs = xs} (w ∷ ws) e each =
        let last : z ≡ slice_index_or (w ∷ ws) (length ws) z = at ∙ ap (λ l. slice_index_or l (length l - 1) z) e ∙ (let l = length-append xs (w ∷ ws) in last-of-two xs w z ws _ (omega arith)) in
        let k : v ≤ℤ z = subst (λ y. v ≤ℤ y) (sym last) (each-last (λ c. v ≤ℤ c) w z ws each) in
        absurd (omega (arith, ints))

pub below-none : (v v1 : ℤ) (old now : List ℤ) → v1 ≡ v → MayLeaveBelow v1 old now → now ≡ [] → LeavesBelow v old now
below-none v v1 old now is may none = λ xs ys o h k.
    let m = subst (λ w. MayLeaveBelow w old now) is may xs ys o h k in
    none ∙ empty xs m.0 (sym m.1 ∙ none)
  where
    empty : (xs zs : List ℤ) → xs ++ zs ≡ [] → [] ≡ xs
    empty [] zs e = refl
    empty (x ∷ xs) zs e = cc

abbrev pub MayLeaveAbove : ℤ → List ℤ → List ℤ → Type 0
MayLeaveAbove v old now = (xs ys : List ℤ) → old ≡ xs ++ ys → Each (λ c. c ≤ℤ v) xs → Each (λ c. v <ℤ c) ys → (zs : List ℤ) × (now ≡ zs ++ ys) × Each (λ c. c ≤ℤ v) zs

pub above-start : (v : ℤ) (old : List ℤ) → MayLeaveAbove v old old
above-start v old = λ xs ys e h k. (xs, e, h)

pub above-step : (v v1 z : ℤ) (old now new : List ℤ) → v1 ≡ v → MayLeaveAbove v1 old now → now ≡ z ∷ new → z ≤ℤ v → MayLeaveAbove v1 old new
above-step v v1 z old now new is may e at = λ xs ys o h k.
    let m = may xs ys o h k in
    let at1 : z ≤ℤ v1 = omega (arith, ints) in
    let less = first-gone (λ c. c ≤ℤ v1) v1 z m.0 ys new (sym m.1 ∙ e) k at1 in
    (less.left, less.is, less.each m.2)

pub above-end : (v v1 z : ℤ) (old now : List ℤ) → v1 ≡ v → MayLeaveAbove v1 old now → z ≡ slice_index_or now 0 z → v <ℤ z → LeavesAbove v old now
above-end v v1 z old now is may at over = λ xs ys o h k.
    let m = subst (λ w. MayLeaveAbove w old now) is may xs ys o h k in
    ended m.0 m.1 m.2
  where
    ended : {ys : List ℤ} (zs : List ℤ) → now ≡ zs ++ ys → Each (λ c. c ≤ℤ v) zs → now ≡ ys
    ended [] e each = e
    ended (w ∷ ws) e each =
        let first : z ≡ w = at ∙ ap (λ l. slice_index_or l 0 z) e in
        let k = each.0 in
        absurd (omega (arith, ints))

pub above-none : (v v1 : ℤ) (old now : List ℤ) → v1 ≡ v → MayLeaveAbove v1 old now → now ≡ [] → LeavesAbove v old now
above-none v v1 old now is may none = λ xs ys o h k.
    let m = subst (λ w. MayLeaveAbove w old now) is may xs ys o h k in
    none ∙ empty m.0 ys (sym m.1 ∙ none)
  where
    empty : (zs ys : List ℤ) → zs ++ ys ≡ [] → [] ≡ ys
    empty [] ys e = sym e
    empty (x ∷ zs) ys e = cc

-- ---- what a survey makes of a table

pub survey-few : (cs : List ℤ) (n : ℕ) (x z : ℤ) → surveyed unsurveyed cs ≡ record { cuts = length cs; least = x; greatest = z } → n ≡ length cs → n < 3 → None ≡ worth (surveyed unsurveyed cs)
survey-few cs n x z is e h = let few : ltb (length cs) 3 ≡ true = grind (arith, nat_tests) in rw (is, few) refl

abbrev no_survey : Option Survey
no_survey = None

pub survey-wide : (cs : List ℤ) (x z : ℤ) → surveyed unsurveyed cs ≡ record { cuts = length cs; least = x; greatest = z } → (x +ℤ pos 1022) <ℤ z → None ≡ worth (surveyed unsurveyed cs)
survey-wide cs x z is h = rw (is, above (x +ℤ pos 1022) z h) (either (ltb (length cs) 3)) where
  either : (b : Bool) → no_survey ≡ (if b then no_survey else no_survey)
  either true = refl
  either false = refl

pub survey-table : (cs : List ℤ) (n : ℕ) (x z x1 z1 : ℤ) → surveyed unsurveyed cs ≡ record { cuts = length cs; least = x; greatest = z } → n ≡ length cs → 3 ≤ n → z ≤ℤ (x +ℤ pos 1022) → x1 ≡ x → z1 ≡ z →
    Some (the_survey n x1 z1) ≡ worth (surveyed unsurveyed cs)
survey-table cs n x z x1 z1 is e h k ex ez = let more : ltb (length cs) 3 ≡ false = grind (arith, nat_tests) in rw (is, more, not_above (x +ℤ pos 1022) z k, ex, ez, e) refl

-- ---- the cuts of a decision

pub cuts-of-decision : (p : ℕ) (v : ℤ) (a b : Shape Leaf) (below over : List ℤ) → least ≤ℤ v → v <ℤ greatest → below ≡ cuts p least v b → over ≡ cuts p (v +ℤ pos 1) greatest a →
    below ++ v ∷ over ≡ root_cuts (decision p v a b)
cuts-of-decision p v a b below over h k eb ea = ap (λ l. l ++ v ∷ over) eb ∙ ap (λ l. cuts p least v b ++ v ∷ l) ea ∙ sym (cuts_between p least greatest v a b h k)

pub cuts-of-last : (p : ℕ) (v : ℤ) (a b : Shape Leaf) (below : List ℤ) → v ≡ greatest → below ≡ cuts p least v b → below ≡ root_cuts (decision p v a b)
cuts-of-last p v a b below is e = e ∙ ap (λ w. cuts p least w b) is ∙ sym (cuts_below p least greatest v a b (omega (arith, ints)) (omega (arith, ints)))

-- a decision over marked trees is marked
pub decision-marked : (p : ℕ) (v v1 : ℤ) (table : Option Survey) (cs : List ℤ) (l l1 r r1 : Marked) → v1 ≡ v → l1 ≡ l → r1 ≡ r → IsMarked l → IsMarked r →
    cs ≡ root_cuts (decision p v (marked_shape l) (marked_shape r)) → table ≡ worth (surveyed unsurveyed cs) →
    ((table ≡ tabled (decision p v1 (marked_shape l1) (marked_shape r1))) × (IsMarked l1 × IsMarked r1)) × (cs ≡ root_cuts (decision p v1 (marked_shape l1) (marked_shape r1)))
decision-marked p v v1 table cs l l1 r r1 ev el er ml mr are is = rw (ev, el, er) ((is ∙ ap (λ xs. worth (surveyed unsurveyed xs)) are, (ml, mr)), are)
