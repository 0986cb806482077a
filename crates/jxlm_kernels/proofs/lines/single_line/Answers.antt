use Rattle.std.proofs.Common.{◌≡◌, ◌∙◌, ap, FitsSigned, length, arith, subst, sym}
use Rattle.jxlm_lanes.proofs.NumberAt.{number_read}
use Rattle.jxlm_lanes.proofs.Lines.{CopiedSoFar, copied_none, copied_more}
use Rattle.jxlm_kernels.proofs.lines.single_line.Goals as goal

pub loop-j-init : goal.loop-j-init
loop-j-init g c = copied_none g.S.Pairs.to_int g.S.Pairs.width c.args.line.now c.args.strip.now c.args.at

pub loop-j-preserved : goal.loop-j-preserved
loop-j-preserved g c =
    let f = g.S.Pairs.to_int in
    let w = g.S.Pairs.width in
    let same = ap f c.single-sample.ensures.same in
    copied_more f w c.args.line.now c.args.strip.now c.args.at c.loop-j.strip c.loop-j.j c.single-sample.result (let room = c.requires in omega arith)
    (number_read f c.args.line.now c.loop-j.j c.index-line-j.result (omega arith) c.index-line-j.is ∙ sym same)
    (subst (FitsSigned w) (sym same) c.single-sample.ensures.fits) c.loop-j.invariant

pub returns : goal.returns
returns g c =
    let e : c.loop-j.j ≡ length c.args.line.now = omega arith in
    let all = subst (CopiedSoFar g.S.Pairs.to_int g.S.Pairs.width c.args.line.now c.args.strip.now c.args.at c.loop-j.strip) e c.loop-j.invariant in
    record { len = all.len; kept = all.kept; copied = all.copied; fit = all.fit }
