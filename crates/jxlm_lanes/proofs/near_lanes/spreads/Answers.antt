use Rattle.std.proofs.Common.{◌≡◌, ◌∙◌, ap, get_or, unsigned_abs, ◌-ℤ◌, arith}
use Rattle.jxlm_lanes.specs.Inner.Lanes.{lane}
use Rattle.jxlm_lanes.proofs.Each.{eight_back, lane_back}
use Rattle.jxlm_lanes.proofs.NearPairs.{apart_back}
use Rattle.jxlm_lanes.proofs.near_lanes.spreads.Goals as goal

pub gap-requires-clause-a_fit : goal.gap-requires-clause-a_fit
gap-requires-clause-a_fit c = (eight_back c.args.before c.requires.before).fit

pub gap-requires-clause-b_fit : goal.gap-requires-clause-b_fit
gap-requires-clause-b_fit c = (eight_back c.args.average c.requires.average).fit

pub gap-requires-2-clause-a_fit : goal.gap-requires-2-clause-a_fit
gap-requires-2-clause-a_fit c = (eight_back c.args.average c.requires.average).fit

pub gap-requires-2-clause-b_fit : goal.gap-requires-2-clause-b_fit
gap-requires-2-clause-b_fit c = (eight_back c.args.next c.requires.next).fit

pub sizes-requires : goal.sizes-requires
sizes-requires c = eight_back c.args.average c.requires.average

pub sizes-requires-2 : goal.sizes-requires-2
sizes-requires-2 c = eight_back c.args.residual c.requires.residual

pub returns-clause-value : goal.returns-clause-value
returns-clause-value c j lt h =
    let m = lane_back c.args.average j c.requires.average in
    let r = lane_back c.args.residual j c.requires.residual in
    let one : get_or c.gap.result j 0 ≡ unsigned_abs (lane c.args.before j -ℤ lane c.args.average j) =
    c.gap.ensures.value j lt ∙ apart_back c.args.before c.args.average j c.requires.before c.requires.average in
    let two : get_or c.gap-2.result j 0 ≡ unsigned_abs (lane c.args.average j -ℤ lane c.args.next j) =
    c.gap-2.ensures.value j lt ∙ apart_back c.args.average c.args.next j c.requires.average c.requires.next in
    let three : get_or c.sizes.result j 0 ≡ unsigned_abs (lane c.args.average j) = c.sizes.ensures.value j lt ∙ ap unsigned_abs m in
    let four : get_or c.sizes-2.result j 0 ≡ unsigned_abs (lane c.args.residual j) = c.sizes-2.ensures.value j lt ∙ ap unsigned_abs r in
    let s1 = c.sum-apart.ensures.value j lt in
    let s2 = c.sum.ensures.value j lt in
    let s3 = c.sum-2.ensures.value j lt in
    omega (arith, one, two, three, four, s1, s2, s3, h)
