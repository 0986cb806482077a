-- A walk of a tree that asks for property 9 alone goes by it, and clamping it changes no decision.
use Rattle.std.proofs.Common.{◌≡◌, ℕ, ℤ, pos, Bool, true, false, ◌==◌, ◌&&◌, ◌||◌, ◌≤ℤ◌, neg_ℤ, ◌⊎◌, inl, inr, ◌+◌, ◌*◌, nat_lt, int_le, int_lt, if◌then◌else◌, refl, sym, ap, ◌∙◌, arith}
use Rattle.std.specs.Int.{w32, int_wrap}
use Rattle.std.proofs.lemmas.Bool.{eqb-true}
use Rattle.std.proofs.lemmas.Bool.Decides.{nat_tests}
use Rattle.std.proofs.lemmas.Int.{clamps, ints}
use Rattle.jxlm_tree.specs.FlatTree.{FlatTree, leaf_reached, property_of}
use Rattle.jxlm_tree.specs.SumTrees.{GoesBySum, KeepsSums, is_sum_cut, takes_sums, takes_sums_at}
use Rattle.jxlm_ma_tree.specs.Tree.{Shape, leaf, decision, walk}
use Rattle.jxlm_ma_tree.specs.declared.leaf.Leaf.{Leaf}
use Rattle.jxlm_ma_tree.proofs.Comparing.{above, int_lt-tells, not_above}
use Rattle.jxlm_predictor.specs.Sums.{clamp_sum}

-- both of two are true
first_of : (p q : Bool) → (p && q) ≡ true → p ≡ true
first_of true q h = refl
first_of false q h = h

pub second_of : (p q : Bool) → (p && q) ≡ true → q ≡ true
second_of true q h = h
second_of false true h = refl
second_of false false h = h

-- a side that is taken alike leads to one leaf
one_side : (b p q : Bool) (A A' B B' : Leaf) → (if b then p else q) ≡ true → (p ≡ true → A ≡ A') → (q ≡ true → B ≡ B') → (if b then A else B) ≡ (if b then A' else B')
one_side true p q A A' B B' h l r = l h
one_side false p q A A' B B' h l r = r h

both_sides : (b : Bool) (A A' B B' : Leaf) → A ≡ A' → B ≡ B' → (if b then A else B) ≡ (if b then A' else B')
both_sides true A A' B B' l r = l
both_sides false A A' B B' l r = r

-- a cut of such a tree does not tell a clamped sum from the sum
unclamped : (v z : ℤ) → neg_ℤ (pos 8193) ≤ℤ v → v ≤ℤ pos 8190 → int_lt v (clamp_sum z) ≡ int_lt v z
unclamped v z low high =
    elim (int_lt-tells v z) [
      | inl h ↦ let up = h.1 in above v (clamp_sum z) (omega (arith, ints, clamps, low, high, up)) ∙ sym h.0
      | inr h ↦ let down = h.1 in not_above v (clamp_sum z) (omega (arith, ints, clamps, low, high, down)) ∙ sym h.0
    ]

up_to : (a b : ℤ) → int_le a b ≡ true → a ≤ℤ b
up_to a b h = grind (arith, ints)

cut_ends : (wide : Bool) (v : ℤ) → is_sum_cut wide v ≡ true → (neg_ℤ (pos 8193) ≤ℤ v) × (v ≤ℤ pos 8190)
cut_ends true v h =
    (up_to (neg_ℤ (pos 8193)) v (first_of (int_le (neg_ℤ (pos 8193)) v) (int_le v (pos 8190)) h), up_to v (pos 8190) (second_of (int_le (neg_ℤ (pos 8193)) v) (int_le v (pos 8190)) h))
cut_ends false v h =
    let low = up_to (neg_ℤ (pos 513)) v (first_of (int_le (neg_ℤ (pos 513)) v) (int_le v (pos 510)) h) in
    let high = up_to v (pos 510) (second_of (int_le (neg_ℤ (pos 513)) v) (int_le v (pos 510)) h) in
    (omega (arith, ints, low), omega (arith, ints, high))

module _ (wide : Bool) (c s : ℤ) (f g : ℕ → ℤ) (f0 : f 0 ≡ c) (g0 : g 0 ≡ c) (f1 : f 1 ≡ s) (g1 : g 1 ≡ s) (nine : (v : ℤ) → is_sum_cut wide v ≡ true → int_lt v (f 9) ≡ int_lt v (g 9)) where
  -- what a decision on the channel or the stream compares
  abbrev known : ℕ → ℤ
  known k = if k == 0 then c else s

  of_known : (h : ℕ → ℤ) → h 0 ≡ c → h 1 ≡ s → (k : ℕ) → nat_lt k 2 ≡ true → h k ≡ known k
  of_known h h0 h1 k less = either (k == 0) refl where
    either : (b : Bool) → (k == 0) ≡ b → h k ≡ known k
    either true is = rw is (ap h (eqb-true k 0 is) ∙ h0)
    either false is = let one : k ≡ 1 = grind (arith, nat_tests) in rw is (ap h one ∙ h1)

  one_step : (k : ℕ) (v : ℤ) (p q : Bool) (A A' B B' : Leaf) →
      (if nat_lt k 2 then (if int_lt v (known k) then p else q) else k == 9 && (is_sum_cut wide v && (p && q))) ≡ true → (p ≡ true → A ≡ A') → (q ≡ true → B ≡ B') →
      (if int_lt v (f k) then A else B) ≡ (if int_lt v (g k) then A' else B')
  one_step k v p q A A' B B' h l r = either (nat_lt k 2) refl where
    either : (b : Bool) → nat_lt k 2 ≡ b → (if int_lt v (f k) then A else B) ≡ (if int_lt v (g k) then A' else B')
    either true is =
        let here = rw is at h in
        let fk = of_known f f0 f1 k is in
        let gk = of_known g g0 g1 k is in
        rw (fk, gk) (one_side (int_lt v (known k)) p q A A' B B' here l r)
    either false is =
        let here : (k == 9 && (is_sum_cut wide v && (p && q))) ≡ true = rw is at h in
        let at_nine : k ≡ 9 = eqb-true k 9 (first_of _ _ here) in
        let cut = second_of (k == 9) (is_sum_cut wide v && (p && q)) here in
        let sides = second_of (is_sum_cut wide v) (p && q) cut in
        let same : int_lt v (f k) ≡ int_lt v (g k) = ap (λ n. int_lt v (f n)) at_nine ∙ nine v (first_of (is_sum_cut wide v) (p && q) cut) ∙ sym (ap (λ n. int_lt v (g n)) at_nine) in
        rw same (both_sides (int_lt v (g k)) A A' B B' (l (first_of p q sides)) (r (second_of p q sides)))

  same_walk : (t : Shape Leaf) → takes_sums wide c s t ≡ true → walk t f ≡ walk t g
  same_walk (leaf l) h = refl
  same_walk (decision k v left right) h =
      one_step k v (takes_sums wide c s left) (takes_sums wide c s right) (walk left f) (walk left g) (walk right f) (walk right g) h (same_walk left) (same_walk right)

-- one of two is true
one_of : (p q : Bool) → (p || q) ≡ true → (p ≡ true) ⊎ (q ≡ true)
one_of true q h = inl refl
one_of false q h = inr h

-- so goes a flat tree
module _ (t : FlatTree) (h : takes_sums_at t.channel t.stream_idx t.tree ≡ true) (f g : ℕ → ℤ) where
  abbrev c : ℤ
  c = int_wrap w32 (pos t.channel)

  abbrev s : ℤ
  s = int_wrap w32 (pos t.stream_idx)

  by_cuts : ((wide : Bool) (v : ℤ) → is_sum_cut wide v ≡ true → int_lt v (f 9) ≡ int_lt v (g 9)) → leaf_reached t f ≡ leaf_reached t g
  by_cuts nine =
      let within : nat_lt 9 (16 + 4 * t.prev_channels) ≡ true = grind (arith, nat_tests) in
      let of : (wide : Bool) (v : ℤ) → is_sum_cut wide v ≡ true → int_lt v (property_of t f 9) ≡ int_lt v (property_of t g 9) = rw within nine in
      elim (one_of (takes_sums false c s t.tree) (takes_sums true c s t.tree) h) [
        | inl near ↦ same_walk false c s (property_of t f) (property_of t g) refl refl refl refl (of false) t.tree near
        | inr far ↦ same_walk true c s (property_of t f) (property_of t g) refl refl refl refl (of true) t.tree far
      ]

pub goes_by_sum : (t : FlatTree) → takes_sums_at t.channel t.stream_idx t.tree ≡ true → GoesBySum t
goes_by_sum t h f g nine = by_cuts t h f g (λ wide v cut. ap (int_lt v) nine)

-- and keeps its leaf where the sum is clamped
pub keeps_sums : (t : FlatTree) → takes_sums_at t.channel t.stream_idx t.tree ≡ true → KeepsSums t
keeps_sums t h f g nine =
    by_cuts t h f g (λ wide v cut. let (low, high) = cut_ends wide v cut in ap (int_lt v) nine ∙ unclamped v (g 9) low high)
