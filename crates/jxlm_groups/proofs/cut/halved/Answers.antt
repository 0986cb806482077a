use Rattle.std.proofs.Common.{◌≤◌, arith, rules, sym}
use Rattle.std.specs.Prelude.{unsigned_abs}
use Rattle.std.proofs.Math.Nat.{div-eq_of_lt, pow-le-pow_right}
use Rattle.jxlm_groups.proofs.cut.halved.Goals as goal

pub returns-else-shift-lt32 : goal.returns-else-shift-lt32
returns-else-shift-lt32 c =
    let far : 32 ≤ unsigned_abs c.args.shift = search (rules, arith) in
    let power = pow-le-pow_right {n = 2} (omega arith) {i = 32} {j = unsigned_abs c.args.shift} far in
    sym (div-eq_of_lt (omega (arith, power, c.ranges.side.fits)))
