use Rattle.std.proofs.Common.{rules, FitsSigned}
use Rattle.std.specs.Int.{w16}
use Rattle.std.proofs.lemmas.Int.{to_z-of_z}
use Rattle.jxlm_lanes.proofs.Tendency.{first_is, second_is}
use Rattle.jxlm_kernels.proofs.lines.I16Pairs.pair.Goals as goal

pub returns-clause-first : goal.returns-clause-first
returns-clause-first c =
    let fits : FitsSigned w16 c.narrow_tendency.result = search rules in
    let is = simp (to_z-of_z, c.ranges.before, c.ranges.average, c.ranges.next) at c.narrow_tendency.ensures in
    first_is w16 c.args.before c.args.average c.args.next c.args.residual c.narrow_tendency.result c.ranges.average c.ranges.residual fits is

pub returns-clause-second : goal.returns-clause-second
returns-clause-second c =
    let b = c.args.before in
    let m = c.args.average in
    let x = c.args.next in
    let r = c.args.residual in
    let t = c.narrow_tendency.result in
    let fits : FitsSigned w16 t = search rules in
    let is = simp (to_z-of_z, c.ranges.before, c.ranges.average, c.ranges.next) at c.narrow_tendency.ensures in
    second_is b m x r t c.ranges.average c.ranges.residual fits is
