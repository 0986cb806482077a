use Rattle.std.proofs.Common.{rules, ◌+◌, ◌%◌, ◌-ℤ◌, FitsSigned, int_div, pos, to_z, of_z, ap, ◌∙◌, arith, ℕ}
use Rattle.std.specs.Int.{w32, int_wrap, cast_signed}
use Rattle.std.proofs.lemmas.Int.{to_z-of_z, wrapping_sub-bits}
use Rattle.jxlm_lanes.specs.Pairs.{first_of}
use Rattle.jxlm_lanes.proofs.Tendency.{sum_is, first_is}
use Rattle.jxlm_kernels.proofs.lines.I32Pairs.pair.Goals as goal

pub returns-clause-first : goal.returns-clause-first
returns-clause-first c =
    let fits : FitsSigned w32 c.wide_tendency.result = search rules in
    let is = simp (to_z-of_z, c.ranges.before, c.ranges.average, c.ranges.next) at c.wide_tendency.ensures in
    first_is w32 c.args.before c.args.average c.args.next c.args.residual c.wide_tendency.result c.ranges.average c.ranges.residual fits is

pub returns-clause-second : goal.returns-clause-second
returns-clause-second c =
    let b = c.args.before in
    let m = c.args.average in
    let x = c.args.next in
    let r = c.args.residual in
    let t = c.wide_tendency.result in
    let fits : FitsSigned w32 t = search rules in
    let is = simp (to_z-of_z, c.ranges.before, c.ranges.average, c.ranges.next) at c.wide_tendency.ensures in
    let d : ℕ = (of_z w32 r + of_z w32 t) % 4294967296 in
    let a : ℕ = (of_z w32 m + of_z w32 (int_div (to_z w32 d) (pos 2))) % 4294967296 in
    wrapping_sub-bits w32 a d (omega arith) (omega arith)
    ∙ ap (λ a. int_wrap w32 (a -ℤ cast_signed w32 d)) (first_is w32 b m x r t c.ranges.average c.ranges.residual fits is)
    ∙ ap (λ d. int_wrap w32 (first_of w32 b m x r -ℤ d)) (sum_is w32 b m x r t c.ranges.average c.ranges.residual fits is)
