use Rattle.std.proofs.Common.{◌≤◌, ◌+◌, length, arith}
use Rattle.jxlm_lanes.proofs.NumberAt.{number_read}
use Rattle.jxlm_lanes.proofs.Lines.{lines_from, lines_more, fewer_pairs}
use Rattle.jxlm_kernels.proofs.lines.unsqueeze_from.Goals as goal

pub loop-j-init : goal.loop-j-init
loop-j-init g c = lines_from g.S.Pairs.to_int g.S.Pairs.width c.args.averages.now c.args.next.now c.args.residuals.now c.args.strip.now (length c.args.averages.now) c.args.at c.args.from c.requires.undone

pub loop-j-preserved : goal.loop-j-preserved
loop-j-preserved g c =
    let f = g.S.Pairs.to_int in
    let so_far = c.loop-j.invariant in
    let len = so_far.len in
    let room = c.requires.room in
    let next = c.requires.next_len in
    let res = c.requires.residuals_len in
    lines_more f g.S.Pairs.width c.args.averages.now c.args.next.now c.args.residuals.now c.args.strip.now (length c.args.averages.now) c.args.at c.loop-j.strip c.loop-j.j
    c.pair-first.result.0 c.pair-first.result.1 c.index-strip-at.result c.index-averages-j.result c.index-next-j.result c.index-residuals-j.result (omega arith) room
    (number_read f c.loop-j.strip (c.args.at + c.loop-j.j) c.index-strip-at.result (omega arith) c.index-strip-at.is)
    (number_read f c.args.averages.now c.loop-j.j c.index-averages-j.result (omega arith) c.index-averages-j.is)
    (number_read f c.args.next.now c.loop-j.j c.index-next-j.result (omega arith) c.index-next-j.is)
    (number_read f c.args.residuals.now c.loop-j.j c.index-residuals-j.result (omega arith) c.index-residuals-j.is)
    so_far c.pair-first.ensures.first c.pair-first.ensures.second c.pair-first.ensures.average_fits c.pair-first.ensures.residual_fits

pub returns-clause-undone : goal.returns-clause-undone
returns-clause-undone g c =
    let all : length c.args.averages.now ≤ c.loop-j.j = omega arith in
    fewer_pairs g.S.Pairs.to_int g.S.Pairs.width c.args.averages.now c.args.next.now c.args.residuals.now c.args.strip.now (length c.args.averages.now) c.args.at c.loop-j.strip
    (length c.args.averages.now) c.loop-j.j all c.loop-j.invariant.pairs
