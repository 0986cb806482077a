use Rattle.std.proofs.Common.{◌≡◌, ◌∙◌, ◌<◌, ℕ, w32}
use Rattle.jxlm_lanes.specs.Inner.Lanes.{lane}
use Rattle.jxlm_lanes.specs.Pairs.{first_of, second_of}
use Rattle.jxlm_lanes.proofs.Each.{eight_back, lane_back}
use Rattle.jxlm_lanes.proofs.Eights.{four}
use Rattle.jxlm_lanes.proofs.NearPairs.{back, wide_eight_back, wide_lane_back, same_at, before_within, average_within, next_within, residual_within, four_spread}
use Rattle.jxlm_lanes.proofs.near_lanes.eight_pairs.Goals as goal

pub narrowed-b-requires : goal.narrowed-b-requires
narrowed-b-requires c = wide_eight_back c.args.before c.requires.before

pub narrowed-m-requires : goal.narrowed-m-requires
narrowed-m-requires c = wide_eight_back c.args.average c.requires.average

pub narrowed-x-requires : goal.narrowed-x-requires
narrowed-x-requires c = wide_eight_back c.args.next c.requires.next

pub narrowed-requires : goal.narrowed-requires
narrowed-requires c = wide_eight_back c.args.residual c.requires.residual

pub near_pairs-requires-clause-before : goal.near_pairs-requires-clause-before
near_pairs-requires-clause-before c = eight_back c.narrowed-b.result c.narrowed-b.ensures.eight

pub near_pairs-requires-clause-average : goal.near_pairs-requires-clause-average
near_pairs-requires-clause-average c = eight_back c.narrowed-m.result c.narrowed-m.ensures.eight

pub near_pairs-requires-clause-next : goal.near_pairs-requires-clause-next
near_pairs-requires-clause-next c = eight_back c.narrowed-x.result c.narrowed-x.ensures.eight

pub near_pairs-requires-clause-residual : goal.near_pairs-requires-clause-residual
near_pairs-requires-clause-residual c = eight_back c.narrowed.result c.narrowed.ensures.eight

-- the lanes in 16 bits are those in 32
module _ (c : goal.After-narrowed) (j : ℕ) (lt : j < 8) where
  b_is : lane (back c.narrowed-b.result) j ≡ lane c.args.before j
  b_is =
      same_at c.args.before c.narrowed-b.result j c.requires.before c.narrowed-b.ensures.eight (λ h. c.narrowed-b.ensures.same j lt h)
      (before_within (lane c.args.before j) (lane c.args.average j) (lane c.args.next j) (lane c.args.residual j) (c.requires.near j lt))

  m_is : lane (back c.narrowed-m.result) j ≡ lane c.args.average j
  m_is =
      same_at c.args.average c.narrowed-m.result j c.requires.average c.narrowed-m.ensures.eight (λ h. c.narrowed-m.ensures.same j lt h)
      (average_within (lane c.args.before j) (lane c.args.average j) (lane c.args.next j) (lane c.args.residual j) (c.requires.near j lt))

  x_is : lane (back c.narrowed-x.result) j ≡ lane c.args.next j
  x_is =
      same_at c.args.next c.narrowed-x.result j c.requires.next c.narrowed-x.ensures.eight (λ h. c.narrowed-x.ensures.same j lt h)
      (next_within (lane c.args.before j) (lane c.args.average j) (lane c.args.next j) (lane c.args.residual j) (c.requires.near j lt))

  r_is : lane (back c.narrowed.result) j ≡ lane c.args.residual j
  r_is =
      same_at c.args.residual c.narrowed.result j c.requires.residual c.narrowed.ensures.eight (λ h. c.narrowed.ensures.same j lt h)
      (residual_within (lane c.args.before j) (lane c.args.average j) (lane c.args.next j) (lane c.args.residual j) (c.requires.near j lt))

pub near_pairs-requires-clause-near : goal.near_pairs-requires-clause-near
near_pairs-requires-clause-near c j lt = four_spread _ _ _ _ _ _ _ _ (c.requires.near j lt) (b_is c j lt) (m_is c j lt) (x_is c j lt) (r_is c j lt)

pub widened-requires : goal.widened-requires
widened-requires c = eight_back c.near_pairs.result.0 c.near_pairs.ensures.first_eight

pub widened-requires-2 : goal.widened-requires-2
widened-requires-2 c = eight_back c.near_pairs.result.1 c.near_pairs.ensures.second_eight

pub returns-clause-first : goal.returns-clause-first
returns-clause-first c j lt =
    let d = c.before.before.before.before.before in
    wide_lane_back c.widened.result j c.widened.ensures.eight ∙ c.widened.ensures.value j lt
    ∙ lane_back c.near_pairs.result.0 j c.near_pairs.ensures.first_eight ∙ c.near_pairs.ensures.first j lt
    ∙ four (first_of w32) _ _ _ _ _ _ _ _ (b_is d j lt) (m_is d j lt) (x_is d j lt) (r_is d j lt)

pub returns-clause-second : goal.returns-clause-second
returns-clause-second c j lt =
    let d = c.before.before.before.before.before in
    wide_lane_back c.widened-2.result j c.widened-2.ensures.eight ∙ c.widened-2.ensures.value j lt
    ∙ lane_back c.near_pairs.result.1 j c.near_pairs.ensures.second_eight ∙ c.near_pairs.ensures.second j lt
    ∙ four (second_of w32) _ _ _ _ _ _ _ _ (b_is d j lt) (m_is d j lt) (x_is d j lt) (r_is d j lt)

pub returns-clause-first_eight : goal.returns-clause-first_eight
returns-clause-first_eight c = wide_eight_back c.widened.result c.widened.ensures.eight

pub returns-clause-second_eight : goal.returns-clause-second_eight
returns-clause-second_eight c = wide_eight_back c.widened-2.result c.widened-2.ensures.eight
