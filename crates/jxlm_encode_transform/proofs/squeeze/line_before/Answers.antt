use Rattle.std.proofs.Common.{length, arith}
use Rattle.jxlm_lanes.specs.Squeeze.{averages}
use Rattle.jxlm_encode_transform.proofs.Averaged.{before_first, before_others}
use Rattle.jxlm_encode_transform.proofs.StripSteps.{line_within}
use Rattle.jxlm_encode_transform.proofs.squeeze.line_before.Goals as goal

pub line_at-requires : goal.line_at-requires
line_at-requires g c =
    let pair = c.requires.pair in
    line_within 0 (averages c.args.strip.height) c.args.strip.width (length c.args.averages.now) (omega (arith, pair)) c.requires.room

pub returns-then-k-gt0-clause-before : goal.returns-then-k-gt0-clause-before
returns-then-k-gt0-clause-before g c = λ x p.
    before_others g.S.Sealed.to_int g.S.Sealed.width c.args.strip c.args.store.now c.args.averages.now c.requires.averages c.region_row.result.now x c.args.k p c.if-k-gt0.true c.region_row.ensures.cells

pub returns-else-k-gt0-clause-before : goal.returns-else-k-gt0-clause-before
returns-else-k-gt0-clause-before g c = λ x p.
    before_first g.S.Sealed.to_int g.S.Sealed.width c.args.strip c.args.store.now c.args.averages.now c.requires.averages c.line_at.result.now x c.args.k p c.requires.pair c.if-k-gt0.false c.line_at.ensures.value
