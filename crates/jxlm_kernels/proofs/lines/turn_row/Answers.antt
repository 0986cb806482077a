use Rattle.std.proofs.Common.{◌≡◌, ◌+◌, ◌*◌, ◌<◌, length, arith, rules, subst}
use Rattle.jxlm_kernels.proofs.Turned.{TurnedSoFar, turned_none, turned_more, turned_within}
use Rattle.jxlm_kernels.proofs.lines.turn_row.Goals as goal

pub loop-i-init : goal.loop-i-init
loop-i-init g c = turned_none c.args.row.now c.args.turned.now c.args.rows c.args.j

pub offset_bounds-turned-i : goal.offset_bounds-turned-i
offset_bounds-turned-i g c =
    let lt = turned_within c.loop-i.i (length c.args.row.now) c.args.rows c.args.j (length c.args.turned.now) (omega arith) c.requires.among c.requires.room in
    let within : c.loop-i.i * c.args.rows + c.args.j < length c.loop-i.turned = let len = c.loop-i.invariant.len in omega (arith, lt, len) in search rules

pub loop-i-preserved : goal.loop-i-preserved
loop-i-preserved g c = turned_more c.args.row.now c.args.turned.now c.args.rows c.args.j c.loop-i.turned c.loop-i.i c.index-row-i.result c.requires.among (omega arith) c.requires.room c.index-row-i.is c.loop-i.invariant

pub returns : goal.returns
returns g c =
    let e : c.loop-i.i ≡ length c.args.row.now = omega arith in
    let all = subst (TurnedSoFar c.args.row.now c.args.turned.now c.args.rows c.args.j c.loop-i.turned) e c.loop-i.invariant in record { len = all.len; turned = all.copied; kept = all.kept }
