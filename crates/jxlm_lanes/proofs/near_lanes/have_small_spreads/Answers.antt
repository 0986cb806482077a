use Rattle.std.proofs.Common.{◌≤◌, ℤ, arith}
use Rattle.jxlm_lanes.specs.Inner.Lanes.{lane, spread}
use Rattle.jxlm_lanes.proofs.Each.{eight_back}
use Rattle.jxlm_lanes.proofs.NearPairs.{back, wide_eight_back, inside_at, before_within, average_within, next_within, residual_within, four_spread}
use Rattle.jxlm_lanes.proofs.near_lanes.have_small_spreads.Goals as goal

pub narrowed-b-requires : goal.narrowed-b-requires
narrowed-b-requires c = wide_eight_back c.args.before c.requires.before

pub narrowed-m-requires : goal.narrowed-m-requires
narrowed-m-requires c = wide_eight_back c.args.average c.requires.average

pub narrowed-x-requires : goal.narrowed-x-requires
narrowed-x-requires c = wide_eight_back c.args.next c.requires.next

pub narrowed-requires : goal.narrowed-requires
narrowed-requires c = wide_eight_back c.args.residual c.requires.residual

pub spreads-requires-clause-before : goal.spreads-requires-clause-before
spreads-requires-clause-before c = eight_back c.narrowed-b.result c.narrowed-b.ensures.eight

pub spreads-requires-clause-average : goal.spreads-requires-clause-average
spreads-requires-clause-average c = eight_back c.narrowed-m.result c.narrowed-m.ensures.eight

pub spreads-requires-clause-next : goal.spreads-requires-clause-next
spreads-requires-clause-next c = eight_back c.narrowed-x.result c.narrowed-x.ensures.eight

pub spreads-requires-clause-residual : goal.spreads-requires-clause-residual
spreads-requires-clause-residual c = eight_back c.narrowed.result c.narrowed.ensures.eight

pub returns : goal.returns
returns c e j lt =
    let b : ℤ = lane (back c.narrowed-b.result) j in
    let m : ℤ = lane (back c.narrowed-m.result) j in
    let x : ℤ = lane (back c.narrowed-x.result) j in
    let r : ℤ = lane (back c.narrowed.result) j in
    let near : spread b m x r ≤ 32000 = c.spreads.ensures.value j lt (c.are_near.ensures e j lt) in
    let hb = before_within b m x r near in
    let hm = average_within b m x r near in
    let hx = next_within b m x r near in
    let hr = residual_within b m x r near in
    four_spread _ _ _ _ b m x r near
    (inside_at c.args.before c.narrowed-b.result j c.requires.before c.narrowed-b.ensures.eight (λ h. c.narrowed-b.ensures.inside j lt h) (omega (arith, hb)))
    (inside_at c.args.average c.narrowed-m.result j c.requires.average c.narrowed-m.ensures.eight (λ h. c.narrowed-m.ensures.inside j lt h) (omega (arith, hm)))
    (inside_at c.args.next c.narrowed-x.result j c.requires.next c.narrowed-x.ensures.eight (λ h. c.narrowed-x.ensures.inside j lt h) (omega (arith, hx)))
    (inside_at c.args.residual c.narrowed.result j c.requires.residual c.narrowed.ensures.eight (λ h. c.narrowed.ensures.inside j lt h) (omega (arith, hr)))
