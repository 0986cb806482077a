use Rattle.std.proofs.Common.{◌∙◌, length, arith}
use Rattle.jxlm_lanes.specs.Squeeze.{averages}
use Rattle.jxlm_encode_transform.proofs.Averaged.{residual_in}
use Rattle.jxlm_encode_transform.proofs.StripSteps.{line_within}
use Rattle.jxlm_encode_transform.proofs.squeeze.residual_line.Goals as goal

pub line_at-own-requires : goal.line_at-own-requires
line_at-own-requires g c =
    let pair = c.requires.pair in
    line_within c.args.k (averages c.args.strip.height) c.args.strip.width (length c.args.averages.now) (omega (arith, pair)) c.requires.len

pub line_at-next-requires : goal.line_at-next-requires
line_at-next-requires g c =
    line_within c.place_after.result (averages c.args.strip.height) c.args.strip.width (length c.args.averages.now) c.place_after.ensures.within c.requires.len

pub returns-clause-residuals : goal.returns-clause-residuals
returns-clause-residuals g c = λ x p.
    let lines = c.residual_lines.ensures.residuals in
    let room = c.requires.room in
    lines x (omega (arith, p, room))
    ∙ residual_in g.S.Sealed.to_int g.S.Sealed.width c.args.strip c.args.store.now c.args.averages.now c.requires.averages
    c.line_before-before.result.now c.line_at-own.result.now c.line_at-next.result.now c.region_row-first.result.now c.region_row-second.result.now x c.args.k c.place_after.result p c.requires.pair
    c.place_after.ensures.within c.place_after.ensures.value (c.line_before-before.ensures.before x p) c.line_at-own.ensures.value c.line_at-next.ensures.value c.region_row-first.ensures.cells c.region_row-second.ensures.cells
