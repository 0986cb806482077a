use Rattle.std.proofs.Common.{◌≡◌, ◌∙◌, ap, ℕ, pos, ◌+◌, ◌≤◌, cond, get_or, int_le, unsigned_abs, ◌-ℤ◌, arith}
use Rattle.jxlm_lanes.specs.Squeeze.{slope}
use Rattle.jxlm_lanes.specs.Inner.Lanes.{lane}
use Rattle.jxlm_lanes.proofs.Each.{eight_back}
use Rattle.jxlm_lanes.proofs.Tendency.{slope_small}
use Rattle.jxlm_lanes.proofs.NearPairs.{back, again, lane_again, apart_back, signed_at, within_both}
use Rattle.jxlm_lanes.proofs.near_lanes.straight_slopes.Goals as goal

pub gap-p-requires-clause-a_fit : goal.gap-p-requires-clause-a_fit
gap-p-requires-clause-a_fit c = (eight_back c.args.a c.requires.a).fit

pub gap-p-requires-clause-b_fit : goal.gap-p-requires-clause-b_fit
gap-p-requires-clause-b_fit c = (eight_back c.args.b c.requires.b).fit

pub gap-q-requires-clause-a_fit : goal.gap-q-requires-clause-a_fit
gap-q-requires-clause-a_fit c = (eight_back c.args.b c.requires.b).fit

pub gap-q-requires-clause-b_fit : goal.gap-q-requires-clause-b_fit
gap-q-requires-clause-b_fit c = (eight_back c.args.c c.requires.c).fit

pub gap-requires-clause-a_fit : goal.gap-requires-clause-a_fit
gap-requires-clause-a_fit c = (eight_back c.args.a c.requires.a).fit

pub gap-requires-clause-b_fit : goal.gap-requires-clause-b_fit
gap-requires-clause-b_fit c = (eight_back c.args.c c.requires.c).fit

pub none_below-requires-clause-a_fit : goal.none_below-requires-clause-a_fit
none_below-requires-clause-a_fit c = again c.signed.result c.signed.ensures.fit

pub none_below-requires-clause-b_fit : goal.none_below-requires-clause-b_fit
none_below-requires-clause-b_fit c = again c.signed-2.result c.signed-2.ensures.fit

pub none_below-requires-clause-kept_fit : goal.none_below-requires-clause-kept_fit
none_below-requires-clause-kept_fit c = again c.signed-3.result c.signed-3.ensures.fit

pub returns-clause-value : goal.returns-clause-value
returns-clause-value c j lt =
    let p : ℕ = unsigned_abs (lane c.args.a j -ℤ lane c.args.b j) in
    let q : ℕ = unsigned_abs (lane c.args.b j -ℤ lane c.args.c j) in
    let whole : ℕ = unsigned_abs (lane c.args.a j -ℤ lane c.args.c j) in
    let near : p + q ≤ 32000 = c.requires.near j lt in
    let p_is : get_or c.gap-p.result j 0 ≡ p = c.gap-p.ensures.value j lt ∙ apart_back c.args.a c.args.b j c.requires.a c.requires.b in
    let q_is : get_or c.gap-q.result j 0 ≡ q = c.gap-q.ensures.value j lt ∙ apart_back c.args.b c.args.c j c.requires.b c.requires.c in
    let whole_is : get_or c.gap.result j 0 ≡ whole = c.gap.ensures.value j lt ∙ apart_back c.args.a c.args.c j c.requires.a c.requires.c in
    let added = c.sum.ensures.value j lt in
    let sum_is : get_or c.sum.result j 0 ≡ p + q = omega (arith, added, p_is, q_is, near) in
    let small = slope_small p q in
    let slope_is : get_or c.slopes.result j 0 ≡ slope p q =
    c.slopes.ensures.value j lt (omega (arith, p_is, q_is, near)) ∙ ap (λ p. slope p (get_or c.gap-q.result j 0)) p_is ∙ ap (slope p) q_is in
    let within : whole ≤ p + q = within_both (lane c.args.a j) (lane c.args.b j) (lane c.args.c j) in
    let one : lane (back c.signed.result) j ≡ pos whole =
    signed_at c.signed.result c.gap.result j whole c.signed.ensures.value c.signed.ensures.fit c.gap.ensures.len lt whole_is (omega (arith, within, near)) in
    let two : lane (back c.signed-2.result) j ≡ pos (p + q) =
    signed_at c.signed-2.result c.sum.result j (p + q) c.signed-2.ensures.value c.signed-2.ensures.fit c.sum.ensures.len lt sum_is (omega (arith, near)) in
    let three : lane (back c.signed-3.result) j ≡ pos (slope p q) =
    signed_at c.signed-3.result c.slopes.result j (slope p q) c.signed-3.ensures.value c.signed-3.ensures.fit c.slopes.ensures.len lt slope_is (omega (arith, small, near)) in
    lane_again c.none_below.result j c.none_below.ensures.fit
    ∙ c.none_below.ensures.value j lt
    ∙ ap (λ z. cond (int_le z (lane (back c.signed.result) j)) (lane (back c.signed-3.result) j) (pos 0)) two
    ∙ ap (λ z. cond (int_le (pos (p + q)) z) (lane (back c.signed-3.result) j) (pos 0)) one
    ∙ ap (λ z. cond (int_le (pos (p + q)) (pos whole)) z (pos 0)) three

pub returns-clause-eight : goal.returns-clause-eight
returns-clause-eight c = eight_back c.none_below.result (record { len = c.none_below.ensures.len; fit = c.none_below.ensures.fit })
