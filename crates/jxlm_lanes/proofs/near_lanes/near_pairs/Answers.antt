use Rattle.std.proofs.Common.{◌≡◌, ◌∙◌, ap, sym, subst, ℕ, ℤ, List, pos, ◌<◌, ◌+◌, ◌≤◌, ◌+ℤ◌, ◌-ℤ◌, ◌<ℤ◌, int_div, length, unsigned_abs, FitsSigned, w16, arith}
use Rattle.std.specs.Int.{int_wrap}
use Rattle.std.proofs.lemmas.Int.{quot_fits}
use Rattle.std.proofs.lemmas.Simd.{Each1-get_or, Each1-from_get_or}
use Rattle.jxlm_lanes.specs.Squeeze.{tendency}
use Rattle.jxlm_lanes.specs.Inner.Lanes.{lane, AreEight}
use Rattle.jxlm_lanes.specs.Pairs.{first_of, pair_difference}
use Rattle.jxlm_lanes.proofs.Each.{eight_back, lane_back, two}
use Rattle.jxlm_lanes.proofs.NearPairs.{back, again, lane_again, three, three_as, first_in_32, second_in_32}
use Rattle.jxlm_lanes.proofs.near_lanes.near_pairs.Goals as goal

pub near_tendencies-requires-clause-a : goal.near_tendencies-requires-clause-a
near_tendencies-requires-clause-a c = eight_back c.args.before c.requires.before

pub near_tendencies-requires-clause-b : goal.near_tendencies-requires-clause-b
near_tendencies-requires-clause-b c = eight_back c.args.average c.requires.average

pub near_tendencies-requires-clause-c : goal.near_tendencies-requires-clause-c
near_tendencies-requires-clause-c c = eight_back c.args.next c.requires.next

pub near_tendencies-requires-clause-near : goal.near_tendencies-requires-clause-near
near_tendencies-requires-clause-near c =
    three (λ a b c. (j : ℕ) → j < 8 → unsigned_abs (lane a j -ℤ lane b j) + unsigned_abs (lane b j -ℤ lane c j) ≤ 32000) c.args.before c.args.average c.args.next
    c.requires.before c.requires.average c.requires.next (λ j lt. let h = c.requires.near j lt in omega (arith, h))

pub sums-difference-requires-clause-a : goal.sums-difference-requires-clause-a
sums-difference-requires-clause-a c = eight_back c.args.residual c.requires.residual

pub sums-difference-requires-clause-b : goal.sums-difference-requires-clause-b
sums-difference-requires-clause-b c = eight_back c.near_tendencies.result c.near_tendencies.ensures.eight

pub half-requires-clause-fit : goal.half-requires-clause-fit
half-requires-clause-fit c = again c.sums-difference.result c.sums-difference.ensures.eight.fit

pub sums-first-requires-clause-a : goal.sums-first-requires-clause-a
sums-first-requires-clause-a c = eight_back c.args.average c.requires.average

-- halves of numbers that fit do
halves_eight : (d h : List ℤ) → AreEight d → length h ≡ 8 → ((j : ℕ) → j < 8 → lane h j ≡ int_div (lane (back d) j) (pos 2)) → AreEight h
halves_eight d h e len value =
    let zero : pos 0 <ℤ pos 2 = omega arith in
    let n = e.len in
    record {
      len = len;
      fit = Each1-from_get_or (FitsSigned w16) h (pos 0) (λ j lt.
          subst (FitsSigned w16) (sym (value j (omega arith) ∙ ap (λ z. int_div z (pos 2)) (lane_back d j e)))
          (quot_fits w16 (lane d j) (pos 2) (Each1-get_or (FitsSigned w16) d j (pos 0) (omega arith) e.fit) zero));
    }

pub sums-first-requires-clause-b : goal.sums-first-requires-clause-b
sums-first-requires-clause-b c =
    eight_back c.half.result (halves_eight c.sums-difference.result c.half.result c.sums-difference.ensures.eight c.half.ensures.len (λ j lt. c.half.ensures.value j lt))

pub differences-requires-clause-a : goal.differences-requires-clause-a
differences-requires-clause-a c = eight_back c.sums-first.result c.sums-first.ensures.eight

pub differences-requires-clause-b : goal.differences-requires-clause-b
differences-requires-clause-b c = eight_back c.sums-difference.result c.sums-difference.ensures.eight

module _ (c : goal.After-differences) (j : ℕ) (lt : j < 8) where
  abbrev b : ℤ
  b = lane c.args.before j

  abbrev m : ℤ
  m = lane c.args.average j

  abbrev x : ℤ
  x = lane c.args.next j

  abbrev r : ℤ
  r = lane c.args.residual j

  difference_is : lane c.sums-difference.result j ≡ pair_difference w16 b m x r
  difference_is =
      let t_is : lane (back c.near_tendencies.result) j ≡ tendency b m x =
      lane_again c.near_tendencies.result j c.near_tendencies.ensures.eight.fit
      ∙ three_as (λ u v w. lane c.near_tendencies.result j ≡ tendency (lane u j) (lane v j) (lane w j)) c.args.before c.args.average c.args.next c.requires.before c.requires.average c.requires.next
      (c.near_tendencies.ensures.value j lt) in
      c.sums-difference.ensures.value j lt ∙ two (λ y z. int_wrap w16 (y +ℤ z)) _ _ _ _ (lane_back c.args.residual j c.requires.residual) t_is

  first_is : lane c.sums-first.result j ≡ first_of w16 b m x r
  first_is =
      let eight = halves_eight c.sums-difference.result c.half.result c.sums-difference.ensures.eight c.half.ensures.len (λ j lt. c.half.ensures.value j lt) in
      let half_is : lane (back c.half.result) j ≡ int_div (pair_difference w16 b m x r) (pos 2) =
      lane_back c.half.result j eight ∙ c.half.ensures.value j lt
      ∙ ap (λ z. int_div z (pos 2)) (lane_back c.sums-difference.result j c.sums-difference.ensures.eight ∙ difference_is) in
      c.sums-first.ensures.value j lt ∙ two (λ y z. int_wrap w16 (y +ℤ z)) _ _ _ _ (lane_back c.args.average j c.requires.average) half_is

pub returns-clause-first : goal.returns-clause-first
returns-clause-first c j lt =
    lane_back c.sums-first.result j c.sums-first.ensures.eight ∙ first_is c j lt
    ∙ first_in_32 (lane c.args.before j) (lane c.args.average j) (lane c.args.next j) (lane c.args.residual j) (c.requires.near j lt)

pub returns-clause-second : goal.returns-clause-second
returns-clause-second c j lt =
    lane_back c.differences.result j c.differences.ensures.eight ∙ c.differences.ensures.value j lt
    ∙ two (λ y z. int_wrap w16 (y -ℤ z)) _ _ _ _ (lane_back c.sums-first.result j c.sums-first.ensures.eight ∙ first_is c j lt)
    (lane_back c.sums-difference.result j c.sums-difference.ensures.eight ∙ difference_is c j lt)
    ∙ second_in_32 (lane c.args.before j) (lane c.args.average j) (lane c.args.next j) (lane c.args.residual j) (c.requires.near j lt)

pub returns-clause-first_eight : goal.returns-clause-first_eight
returns-clause-first_eight c = eight_back c.sums-first.result c.sums-first.ensures.eight

pub returns-clause-second_eight : goal.returns-clause-second_eight
returns-clause-second_eight c = eight_back c.differences.result c.differences.ensures.eight
