-- Where property 9 is clamped: its range, and the walks that see it.
use Rattle.std.proofs.Common.{◌≡◌, ℕ, ◌+◌, ◌*◌, ◌≤◌, length, Bool, true, false, ◌&&◌, ◌==◌, nat_lt, if◌then◌else◌, refl, arith, FitsSigned, ℤ, pos, neg_ℤ, ◌^◌, ◌≤ℤ◌, ◌<ℤ◌, ◌+ℤ◌, ◌-ℤ◌, int_lt}
use Rattle.std.specs.Int.{w32, int_wrap}
use Rattle.std.proofs.lemmas.Bool.{eqb-true}
use Rattle.std.proofs.lemmas.Bool.Decides.{nat_tests}
use Rattle.std.proofs.lemmas.Int.{SFits-int_wrap, clamps, ints}
use Rattle.jxlm_tree.specs.FlatTree.{FlatTree, property_of, leaf_reached}
use Rattle.jxlm_tree.specs.ShortTrees.{Fits}
use Rattle.jxlm_tree.specs.Tree.{walk}
use Rattle.jxlm_ma_tree.proofs.Comparing.{less, not_less}
use Rattle.jxlm_tree.proofs.FlatTrees.{asked_is, walk_by}
use Rattle.jxlm_weighted.specs.Neighbours.{neighbours}
use Rattle.jxlm_predictor.specs.Properties.{Surroundings, place_property}
use Rattle.jxlm_predictor.specs.Sums.{clamp_sum, gradient_sum}
use Rattle.jxlm_samples.specs.Part.{place_by, property_by}
use Rattle.jxlm_samples.specs.RowNeighbours.{sum_by}

-- a clamped number is one of 32 bits
clamped-fit : (z : ℤ) → (neg_ℤ (pos (2 ^ 31)) ≤ℤ clamp_sum z) × (clamp_sum z <ℤ pos (2 ^ 31))
clamped-fit z = (omega (arith, ints, clamps), omega (arith, ints, clamps))

-- and so is a sum as property 9 has it
pub sum-fits : (b : Bool) (z : ℤ) → FitsSigned w32 (sum_by b z)
sum-fits true z = let f = clamped-fit z in let low = f.0 in let high = f.1 in omega (arith, ints, low, high)
sum-fits false z = SFits-int_wrap w32 z

-- and so is the clamped sum
clamped_sum-fit : (s : Surroundings) → (neg_ℤ (pos (2 ^ 31)) ≤ℤ gradient_sum s) × (gradient_sum s <ℤ pos (2 ^ 31))
clamped_sum-fit s = clamped-fit ((neighbours s.samples s.width).w -ℤ (neighbours s.samples s.width).nw +ℤ (neighbours s.samples s.width).n)

-- one of two numbers, each of which fits
one-fit : (b : Bool) (x y : ℤ) → (neg_ℤ (pos (2 ^ 31)) ≤ℤ x) × (x <ℤ pos (2 ^ 31)) → (neg_ℤ (pos (2 ^ 31)) ≤ℤ y) × (y <ℤ pos (2 ^ 31)) →
    (neg_ℤ (pos (2 ^ 31)) ≤ℤ (if b then x else y)) × ((if b then x else y) <ℤ pos (2 ^ 31))
one-fit true x y h k = h
one-fit false x y h k = k

pub by-fit : (b : Bool) (s : Surroundings) → Fits (place_property s) → Fits (place_by b s)
by-fit b s rest = record {
  low = λ k. (one-fit (b && k == 9) (gradient_sum s) (place_property s k) (clamped_sum-fit s) (rest.low k, rest.high k)).0;
  high = λ k. (one-fit (b && k == 9) (gradient_sum s) (place_property s k) (clamped_sum-fit s) (rest.low k, rest.high k)).1;
}

-- one of two numbers is the same where both are
one_same : (b : Bool) (x x' y y' : ℤ) → x ≡ x' → y ≡ y' → (if b then x else y) ≡ (if b then x' else y')
one_same true x x' y y' h k = h
one_same false x x' y y' h k = k

pub by_same : (b : Bool) (s t : Surroundings) (k : ℕ) → gradient_sum s ≡ gradient_sum t → place_property s k ≡ place_property t k → place_by b s k ≡ place_by b t k
by_same b s t k sums others = one_same (b && k == 9) _ _ _ _ sums others

-- a property as a flat tree asks for it
asked_by : (b : Bool) (t : FlatTree) (s : Surroundings) (k : ℕ) → length s.earlier ≤ t.prev_channels → property_of t (place_by b s) k ≡ property_by b t.channel t.stream_idx s k
asked_by false t s k h = asked_is t s k h
asked_by true t s k h = either (k == 9) refl where
  at_nine : property_of t (place_by true s) 9 ≡ property_by true t.channel t.stream_idx s 9
  at_nine = let within : nat_lt 9 (16 + 4 * t.prev_channels) ≡ true = grind (arith, nat_tests) in rw within refl

  either : (e : Bool) → (k == 9) ≡ e → property_of t (place_by true s) k ≡ property_by true t.channel t.stream_idx s k
  either true is = rw (eqb-true k 9 is) at_nine
  either false is = rw is (asked_is t s k h)

-- so the walk of the flat tree is that of the whole tree
pub walks_by : (b : Bool) (t : FlatTree) (s : Surroundings) → length s.earlier ≤ t.prev_channels → leaf_reached t (place_by b s) ≡ walk t.tree (property_by b t.channel t.stream_idx s)
walks_by b t s h = walk_by t.tree (property_of t (place_by b s)) (property_by b t.channel t.stream_idx s) (λ k. asked_by b t s k h)
