-- How many nodes are added for a tree.
use Rattle.std.proofs.Common.{◌≡◌, ℕ, ◌+◌, ◌*◌, ◌≤◌, ℤ, pos, ◌+ℤ◌, ◌<ℤ◌, ◌≤ℤ◌, Bool, true, false, cond, ltb, eqb, List, [], ◌∷◌, ◌++◌, length, Some, None, refl, sym, ap, ◌∙◌, subst, arith, ◌⊎◌, inl, inr}
use Rattle.std.specs.Prelude.{int_lt, is_some, fold, not, ◌&&◌, ◌||◌}
use Rattle.std.specs.Int.{w32, int_wrap, int_min, int_max}
use Rattle.std.proofs.lemmas.Int.{ints, clamps}
use Rattle.std.proofs.lemmas.Bool.Decides.{nat_tests}
use Rattle.jxlm_ma_tree.specs.Cuts.{cuts, greatest, least}
use Rattle.jxlm_tree.specs.CompiledNodes.{has_table, if_any, make_table, nodes_of_sides, takes, prune}
use Rattle.jxlm_tree.specs.FlatTree.{FlatTree}
use Rattle.jxlm_ma_tree.specs.Tree.{Shape, leaf, decision, depth}
use Rattle.jxlm_tree.specs.Inner.Compiled.{known_at}
use Rattle.jxlm_ma_tree.specs.Marked.{Each}
use Rattle.jxlm_tree.specs.Inner.Chosen.{chosen}
use Rattle.jxlm_ma_tree.specs.Pruned.{pruned, taken}
use Rattle.jxlm_ma_tree.specs.Cuts.{surveyed, tabled, unsurveyed, worth}
use Rattle.jxlm_ma_tree.specs.declared.marks.Survey.{Survey}
use Rattle.jxlm_ma_tree.specs.declared.leaf.Leaf.{Leaf}
use Rattle.jxlm_ma_tree.proofs.CutLists.{From, cuts-within}
use Rattle.jxlm_ma_tree.proofs.CutLists.{Each-back, Each-front, Each-map, cuts_above, cuts_below, cuts_between, surveyed-cuts}
use Rattle.jxlm_tree.proofs.FlatTables.{worth-some as survey-of}
use Rattle.jxlm_ma_tree.proofs.Comparing.{above, not_above, int_lt-tells, eqb-same, eqb-not, eqb_is}
use Rattle.jxlm_tree.proofs.FlatWalks.{chosen_root-depth}

-- ---- which decisions have a table

surveyed-least : (s : Survey) (xs : List ℤ) → (surveyed s xs).least ≡ fold int_min s.least xs
surveyed-least s [] = refl
surveyed-least s (x ∷ xs) = surveyed-least (record { cuts = s.cuts + 1; least = int_min s.least x; greatest = int_max s.greatest x }) xs

surveyed-greatest : (s : Survey) (xs : List ℤ) → (surveyed s xs).greatest ≡ fold int_max s.greatest xs
surveyed-greatest s [] = refl
surveyed-greatest s (x ∷ xs) = surveyed-greatest (record { cuts = s.cuts + 1; least = int_min s.least x; greatest = int_max s.greatest x }) xs

three : (n m : ℕ) → n ≡ m → not (ltb n 3) ≡ ltb 2 m
three n m e = grind (arith, nat_tests)

worth-some : (s : Survey) (few wide : Bool) → is_some (cond few None (cond wide None (Some s))) ≡ (not few && not wide)
worth-some s true wide = refl
worth-some s false true = refl
worth-some s false false = refl

makes : (cs : List ℤ) → is_some (worth (surveyed unsurveyed cs)) ≡ make_table cs
makes cs =
    let s = surveyed unsurveyed cs in
    let n : s.cuts ≡ length cs = (let h = surveyed-cuts unsurveyed cs in omega arith) in
    worth-some s (ltb s.cuts 3) (int_lt (s.least +ℤ pos 1022) s.greatest)
    ∙ ap (λ b. b && not (int_lt (s.least +ℤ pos 1022) s.greatest)) (three s.cuts (length cs) n)
    ∙ ap (λ z. ltb 2 (length cs) && not (int_lt (z +ℤ pos 1022) s.greatest)) (surveyed-least unsurveyed cs)
    ∙ ap (λ z. ltb 2 (length cs) && not (int_lt (fold int_min greatest cs +ℤ pos 1022) z)) (surveyed-greatest unsurveyed cs)

pub tabled-is : (t : Shape Leaf) → is_some (tabled t) ≡ has_table t
tabled-is (leaf l) = refl
tabled-is (decision p v a b) = makes (cuts p least greatest (decision p v a b))

-- a table's cuts lie below the greatest value
surveyed-below : (s : Survey) (high : ℤ) (xs : List ℤ) → s.greatest <ℤ high → Each (λ c. c <ℤ high) xs → (surveyed s xs).greatest <ℤ high
surveyed-below s high [] h k = h
surveyed-below s high (x ∷ xs) h k =
    let l = k.0 in
    surveyed-below (record { cuts = s.cuts + 1; least = int_min s.least x; greatest = int_max s.greatest x }) high xs (omega (arith, ints, clamps)) k.1

pub table-below : (p : ℕ) (v : ℤ) (a b : Shape Leaf) (s : Survey) → tabled (decision p v a b) ≡ Some s → s.greatest <ℤ greatest
table-below p v a b s e =
    let cs = cuts p least greatest (decision p v a b) in
    subst (λ (r : Survey). r.greatest <ℤ greatest) (survey-of (surveyed unsurveyed cs) s e).0
    (surveyed-below unsurveyed greatest cs (omega (arith, ints)) (Each-map (From least greatest) (λ c. c <ℤ greatest) (λ c h. h.1) cs (cuts-within p least greatest (decision p v a b))))

-- ---- what decisions take, case by case

pub own-fused : (p : ℕ) (v : ℤ) (a b : Shape Leaf) → has_table (decision p v a b) ≡ false → (takes (decision p v a b)).own ≡ 1 + ((takes a).side + (takes b).side)
own-fused p v a b h = rw h

pub side-fused : (p : ℕ) (v : ℤ) (a b : Shape Leaf) → has_table (decision p v a b) ≡ false → (takes (decision p v a b)).side ≡ (takes a).own + (takes b).own
side-fused p v a b h = rw h

pub side-own : (t : Shape Leaf) → (depth t ≡ 0) ⊎ (has_table t ≡ true) → (takes t).side ≡ (takes t).own
side-own (leaf l) h = refl
side-own (decision p v a b) (inl h) = absurd (omega arith)
side-own (decision p v a b) (inr h) = rw h

within-at : (p : ℕ) (low high v : ℤ) (a b : Shape Leaf) → (takes (decision p v a b)).within p low high ≡ (takes a).within p (int_max low (v +ℤ pos 1)) high + (takes b).within p low (int_min high v)
within-at p low high v a b = rw (eqb-same p)

within-differs : (p q : ℕ) (low high v : ℤ) (a b : Shape Leaf) → (q ≡ p → ⊥) → (takes (decision q v a b)).within p low high ≡ if_any low high (takes (decision q v a b)).own
within-differs p q low high v a b h = rw (eqb-not q p h)

some-in : (low high : ℤ) (n : ℕ) → low ≤ℤ high → if_any low high n ≡ n
some-in low high n h = rw (not_above high low h)

none-in : (low high : ℤ) (n : ℕ) → high <ℤ low → if_any low high n ≡ 0
none-in low high n h = rw (above high low h)

own-parted : (p : ℕ) (v : ℤ) (a b : Shape Leaf) → has_table (decision p v a b) ≡ true → (takes (decision p v a b)).own ≡ 1 + nodes_of_sides p least greatest v (takes a) (takes b)
own-parted p v a b h = rw h

pub own-table : (p : ℕ) (v : ℤ) (a b : Shape Leaf) → has_table (decision p v a b) ≡ true → (takes (decision p v a b)).own ≡ 1 + (takes (decision p v a b)).within p least greatest
own-table p v a b h = own-parted p v a b h ∙ ap (λ n. 1 + n) (sym (within-at p least greatest v a b))

-- no value, no node
within-none : (p : ℕ) (low high : ℤ) (t : Shape Leaf) → high <ℤ low → (takes t).within p low high ≡ 0
within-none p low high (leaf l) h = none-in low high 1 h
within-none p low high (decision q v a b) h = elim (eqb_is q p) [
  | inr differs ↦ within-differs p q low high v a b differs ∙ none-in low high (takes (decision q v a b)).own h
  | inl is ↦
      let l : (takes a).within p (int_max low (v +ℤ pos 1)) high ≡ 0 = within-none p (int_max low (v +ℤ pos 1)) high a (omega (arith, ints, clamps)) in
      let r : (takes b).within p low (int_min high v) ≡ 0 = within-none p low (int_min high v) b (omega (arith, ints, clamps)) in
      let e = within-at p low high v a b in
      let at_p : (takes (decision p v a b)).within p low high ≡ 0 = omega arith in
      subst (λ k. (takes (decision k v a b)).within p low high ≡ 0) (sym is) at_p
]

pub within-left : (p : ℕ) (low high v : ℤ) (a b : Shape Leaf) → v <ℤ low → (takes (decision p v a b)).within p low high ≡ (takes a).within p low high
within-left p low high v a b h =
    let low_is : int_max low (v +ℤ pos 1) ≡ low = omega (arith, ints, clamps) in
    let l = ap (λ z. (takes a).within p z high) low_is in
    let r = within-none p low (int_min high v) b (omega (arith, ints, clamps)) in
    let e = within-at p low high v a b in
    omega arith

pub within-right : (p : ℕ) (low high v : ℤ) (a b : Shape Leaf) → high ≤ℤ v → (takes (decision p v a b)).within p low high ≡ (takes b).within p low high
within-right p low high v a b h =
    let high_is : int_min high v ≡ high = omega (arith, ints, clamps) in
    let r = ap (λ z. (takes b).within p low z) high_is in
    let l = within-none p (int_max low (v +ℤ pos 1)) high a (omega (arith, ints, clamps)) in
    let e = within-at p low high v a b in
    omega arith

pub within-both : (p : ℕ) (low high v : ℤ) (a b : Shape Leaf) → low ≤ℤ v → v <ℤ high → (takes (decision p v a b)).within p low high ≡ (takes b).within p low v + (takes a).within p (v +ℤ pos 1) high
within-both p low high v a b h k =
    let low_is : int_max low (v +ℤ pos 1) ≡ (v +ℤ pos 1) = omega (arith, ints, clamps) in
    let high_is : int_min high v ≡ v = omega (arith, ints, clamps) in
    let l = ap (λ z. (takes a).within p z high) low_is in
    let r = ap (λ z. (takes b).within p low z) high_is in
    let e = within-at p low high v a b in
    omega arith

-- a tree that hangs below a table
pub within-hanging : (p : ℕ) (low high : ℤ) (t : Shape Leaf) → ((x : ℤ) → chosen p x t ≡ t) → low ≤ℤ high → (takes t).within p low high ≡ (takes t).own
within-hanging p low high (leaf l) h k = some-in low high 1 k
within-hanging p low high (decision q v a b) h k = elim (eqb_is q p) [
  | inr differs ↦ within-differs p q low high v a b differs ∙ some-in low high (takes (decision q v a b)).own k
  | inl is ↦ absurd (
      let k : depth (chosen p v (decision p v a b)) + 1 ≤ depth (decision p v a b) = chosen_root-depth p v v a b in
      let e : depth (chosen p v (decision p v a b)) ≡ depth (decision p v a b) = subst (λ n. depth (chosen p v (decision n v a b)) ≡ depth (decision n v a b)) is (ap depth (h v)) in
      omega arith)
]

-- ---- a range that has all cuts

each-both : (P Q R : ℤ → Type 0) → ((v : ℤ) → P v → Q v → R v) → (xs : List ℤ) → Each P xs → Each Q xs → Each R xs
each-both P Q R f [] h k = tt
each-both P Q R f (x ∷ xs) h k = (f x h.0 k.0, each-both P Q R f xs h.1 k.1)

pub within-narrow : (p : ℕ) (low high from to : ℤ) (t : Shape Leaf) → low ≤ℤ from → from ≤ℤ to → to ≤ℤ high → Each (From from to) (cuts p low high t) → (takes t).within p low high ≡ (takes t).within p from to
within-narrow p low high from to (leaf l) lf ft th h = some-in low high 1 (omega (arith, ints)) ∙ sym (some-in from to 1 ft)
within-narrow p low high from to (decision q v a b) lf ft th h = elim (eqb_is q p) [
  | inr differs ↦
      let n : ℕ = (takes (decision q v a b)).own in
      within-differs p q low high v a b differs ∙ some-in low high n (omega (arith, ints)) ∙ sym (within-differs p q from to v a b differs ∙ some-in from to n ft)
  | inl is ↦
      let hp : Each (From from to) (cuts p low high (decision p v a b)) = subst (λ k. Each (From from to) (cuts p low high (decision k v a b))) is h in
      let at_p : (takes (decision p v a b)).within p low high ≡ (takes (decision p v a b)).within p from to =
      elim (int_lt-tells v low) [
        | inl up ↦
            let u = up.1 in
            let e : Each (From from to) (cuts p low high a) = subst (Each (From from to)) (cuts_above p low high v a b up.1) hp in
            within-left p low high v a b up.1 ∙ within-narrow p low high from to a lf ft th e ∙ sym (within-left p from to v a b (omega (arith, ints)))
        | inr down ↦ elim (int_lt-tells v high) [
          | inr over ↦
              let o = over.1 in
              let e : Each (From from to) (cuts p low high b) = subst (Each (From from to)) (cuts_below p low high v a b down.1 over.1) hp in
              within-right p low high v a b over.1 ∙ within-narrow p low high from to b lf ft th e ∙ sym (within-right p from to v a b (omega (arith, ints)))
          | inl inside ↦
              let e : Each (From from to) (cuts p low v b ++ v ∷ cuts p (v +ℤ pos 1) high a) = subst (Each (From from to)) (cuts_between p low high v a b down.1 inside.1) hp in
              let ev : Each (From from to) (v ∷ cuts p (v +ℤ pos 1) high a) = Each-back (From from to) (cuts p low v b) (v ∷ cuts p (v +ℤ pos 1) high a) e in
              let at_v = ev.0 in
              let from_v : from ≤ℤ v = at_v.0 in
              let v_to : v <ℤ to = at_v.1 in
              let eb : Each (From from v) (cuts p low v b) =
              each-both (From from to) (From low v) (From from v) (λ c x y. (x.0, y.1)) (cuts p low v b) (Each-front (From from to) (cuts p low v b) (v ∷ cuts p (v +ℤ pos 1) high a) e) (cuts-within p low v b) in
              let ea : Each (From (v +ℤ pos 1) to) (cuts p (v +ℤ pos 1) high a) =
              each-both (From from to) (From (v +ℤ pos 1) high) (From (v +ℤ pos 1) to) (λ c x y. (y.0, x.1)) (cuts p (v +ℤ pos 1) high a) ev.1 (cuts-within p (v +ℤ pos 1) high a) in
              let below = within-narrow p low v from v b lf from_v (omega (arith, ints)) eb in
              let beyond = within-narrow p (v +ℤ pos 1) high (v +ℤ pos 1) to a (omega (arith, ints)) (omega (arith, ints)) th ea in
              let wide = within-both p low high v a b down.1 inside.1 in
              let narrow = within-both p from to v a b from_v v_to in
              omega arith
        ]
      ]
      in
      subst (λ k. (takes (decision k v a b)).within p low high ≡ (takes (decision k v a b)).within p from to) (sym is) at_p
]

-- ---- known decisions

either : (first second there : Bool) (x y v : ℤ) (p : ℕ) (a b a1 b1 : Shape Leaf) → a ≡ a1 → b ≡ b1 →
    cond (first || (second || not there)) (cond (int_lt v (cond first x (cond second y (cond there (pos 0) (pos 0))))) a b) (decision p v a b)
    ≡ taken (cond first (Some x) (cond second (Some y) (cond there None (Some (pos 0))))) p v a1 b1
either true second there x y v p a b a1 b1 ea eb = rw (ea, eb)
either false true there x y v p a b a1 b1 ea eb = rw (ea, eb)
either false false true x y v p a b a1 b1 ea eb = rw (ea, eb)
either false false false x y v p a b a1 b1 ea eb = rw (ea, eb)

pub undecided-is : (t : FlatTree) (s : Shape Leaf) → prune t s ≡ pruned (known_at t.channel t.stream_idx t.prev_channels) s
undecided-is t (leaf l) = refl
undecided-is t (decision p v a b) =
    either (eqb p 0) (eqb p 1) (ltb p (16 + 4 * t.prev_channels)) (int_wrap w32 (pos t.channel)) (int_wrap w32 (pos t.stream_idx)) v p (prune t a) (prune t b) _ _ (undecided-is t a) (undecided-is t b)
