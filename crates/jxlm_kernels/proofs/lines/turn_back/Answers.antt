use Rattle.std.proofs.Common.{◌≡◌, length, arith, subst}
use Rattle.jxlm_kernels.proofs.Turned.{BackSoFar, back_none, back_more, strip_within}
use Rattle.jxlm_kernels.proofs.lines.turn_back.Goals as goal

pub loop-i-init : goal.loop-i-init
loop-i-init g c = back_none c.args.strip.now c.args.row.now c.args.rows c.args.j

pub loop-i-preserved : goal.loop-i-preserved
loop-i-preserved g c =
    let within = strip_within c.loop-i.i (length c.args.row.now) c.args.rows c.args.j (length c.args.strip.now) (omega arith) c.requires.among c.requires.room in
    back_more c.args.strip.now c.args.row.now c.args.rows c.args.j c.loop-i.row c.loop-i.i c.index-strip-i.result (omega arith) within c.index-strip-i.is c.loop-i.invariant

pub returns : goal.returns
returns g c =
    let e : c.loop-i.i ≡ length c.args.row.now = omega arith in
    let all = subst (BackSoFar c.args.strip.now c.args.row.now c.args.rows c.args.j c.loop-i.row) e c.loop-i.invariant in record { len = all.len; turned = all.copied }
