use Rattle.std.proofs.Common.{◌≡◌, ◌∙◌, ap, ℕ, ℤ, List, pos, ◌<◌, ◌+◌, ◌≤◌, cond, int_le, unsigned_abs, ◌-ℤ◌, w16}
use Rattle.std.specs.Int.{int_wrap}
use Rattle.jxlm_lanes.specs.Inner.Lanes.{lane}
use Rattle.jxlm_lanes.proofs.Each.{eight_back, lane_back, two}
use Rattle.jxlm_lanes.proofs.NearPairs.{back, again, lane_again, three, three_as, zero_at, straight, whole_is, near_tendency}
use Rattle.jxlm_lanes.proofs.near_lanes.near_tendencies.Goals as goal

pub straight_slopes-straight-requires-clause-a : goal.straight_slopes-straight-requires-clause-a
straight_slopes-straight-requires-clause-a c = eight_back c.args.a c.requires.a

pub straight_slopes-straight-requires-clause-b : goal.straight_slopes-straight-requires-clause-b
straight_slopes-straight-requires-clause-b c = eight_back c.args.b c.requires.b

pub straight_slopes-straight-requires-clause-c : goal.straight_slopes-straight-requires-clause-c
straight_slopes-straight-requires-clause-c c = eight_back c.args.c c.requires.c

abbrev near : List ℤ → List ℤ → List ℤ → Type 0
near a b c = (j : ℕ) → j < 8 → unsigned_abs (lane a j -ℤ lane b j) + unsigned_abs (lane b j -ℤ lane c j) ≤ 32000

pub straight_slopes-straight-requires-clause-near : goal.straight_slopes-straight-requires-clause-near
straight_slopes-straight-requires-clause-near c = three near c.args.a c.args.b c.args.c c.requires.a c.requires.b c.requires.c c.requires.near

pub differences-whole-requires-clause-a : goal.differences-whole-requires-clause-a
differences-whole-requires-clause-a c = eight_back c.args.a c.requires.a

pub differences-whole-requires-clause-b : goal.differences-whole-requires-clause-b
differences-whole-requires-clause-b c = eight_back c.args.c c.requires.c

pub none_below-requires-clause-a_fit : goal.none_below-requires-clause-a_fit
none_below-requires-clause-a_fit c = again c.differences-whole.result c.differences-whole.ensures.eight.fit

pub none_below-requires-clause-kept_fit : goal.none_below-requires-clause-kept_fit
none_below-requires-clause-kept_fit c = again c.straight_slopes-straight.result c.straight_slopes-straight.ensures.eight.fit

pub none_below-requires-2-clause-b_fit : goal.none_below-requires-2-clause-b_fit
none_below-requires-2-clause-b_fit c = again c.differences-whole.result c.differences-whole.ensures.eight.fit

pub none_below-requires-2-clause-kept_fit : goal.none_below-requires-2-clause-kept_fit
none_below-requires-2-clause-kept_fit c = again c.straight_slopes-straight.result c.straight_slopes-straight.ensures.eight.fit

pub differences-requires-clause-a : goal.differences-requires-clause-a
differences-requires-clause-a c = eight_back c.none_below.result (record { len = c.none_below.ensures.len; fit = c.none_below.ensures.fit })

pub differences-requires-clause-b : goal.differences-requires-clause-b
differences-requires-clause-b c = eight_back c.none_below-2.result (record { len = c.none_below-2.ensures.len; fit = c.none_below-2.ensures.fit })

pub returns-clause-value : goal.returns-clause-value
returns-clause-value c j lt =
    let a : ℤ = lane c.args.a j in
    let b : ℤ = lane c.args.b j in
    let d : ℤ = lane c.args.c j in
    let s : ℤ = straight a b d in
    let h = c.requires.near j lt in
    let straight_is : lane (back c.straight_slopes-straight.result) j ≡ s =
    lane_again c.straight_slopes-straight.result j c.straight_slopes-straight.ensures.eight.fit
    ∙ three_as (λ x y z. lane c.straight_slopes-straight.result j ≡ straight (lane x j) (lane y j) (lane z j)) c.args.a c.args.b c.args.c c.requires.a c.requires.b c.requires.c
    (c.straight_slopes-straight.ensures.value j lt) in
    let w_is : lane (back c.differences-whole.result) j ≡ a -ℤ d =
    lane_again c.differences-whole.result j c.differences-whole.ensures.eight.fit ∙ c.differences-whole.ensures.value j lt
    ∙ two (λ x y. int_wrap w16 (x -ℤ y)) _ _ _ _ (lane_back c.args.a j c.requires.a) (lane_back c.args.c j c.requires.c) ∙ whole_is a b d h in
    let fall : lane (back c.none_below.result) j ≡ cond (int_le (pos 0) (a -ℤ d)) s (pos 0) =
    lane_again c.none_below.result j c.none_below.ensures.fit ∙ c.none_below.ensures.value j lt
    ∙ ap (λ z. cond (int_le z (lane (back c.differences-whole.result) j)) (lane (back c.straight_slopes-straight.result) j) (pos 0)) (zero_at j lt)
    ∙ two (λ x y. cond (int_le (pos 0) x) y (pos 0)) _ _ _ _ w_is straight_is in
    let rise : lane (back c.none_below-2.result) j ≡ cond (int_le (a -ℤ d) (pos 0)) s (pos 0) =
    lane_again c.none_below-2.result j c.none_below-2.ensures.fit ∙ c.none_below-2.ensures.value j lt
    ∙ ap (λ z. cond (int_le (lane (back c.differences-whole.result) j) z) (lane (back c.straight_slopes-straight.result) j) (pos 0)) (zero_at j lt)
    ∙ two (λ x y. cond (int_le x (pos 0)) y (pos 0)) _ _ _ _ w_is straight_is in
    lane_again c.differences.result j c.differences.ensures.eight.fit ∙ c.differences.ensures.value j lt
    ∙ two (λ x y. int_wrap w16 (x -ℤ y)) _ _ _ _ fall rise ∙ near_tendency a b d h

pub returns-clause-eight : goal.returns-clause-eight
returns-clause-eight c = eight_back c.differences.result c.differences.ensures.eight
