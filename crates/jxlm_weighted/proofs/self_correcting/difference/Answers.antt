use Rattle.std.proofs.Common.{pos, ◌-ℤ◌, ◌*ℤ◌, FitsSigned, arith}
use Rattle.std.specs.Int.{w32, w64}
use Rattle.std.proofs.lemmas.Int.{to_z-of_z, ints}
use Rattle.jxlm_weighted.proofs.self_correcting.difference.Goals as goal

pub returns-clause-value : goal.returns-clause-value
returns-clause-value c =
    let i1 : FitsSigned w32 c.args.a = c.ranges.a in
    let i2 : FitsSigned w32 c.args.b = c.ranges.b in
    let f0 : FitsSigned w64 c.args.a = omega (arith, ints) in
    let f1 : FitsSigned w64 c.args.b = omega (arith, ints) in
    let f2 : FitsSigned w64 (c.args.a *ℤ pos 8) = omega (arith, ints) in
    let f3 : FitsSigned w64 (c.args.b *ℤ pos 8) = omega (arith, ints) in
    let f4 : FitsSigned w64 (c.args.a *ℤ pos 8 -ℤ c.args.b *ℤ pos 8) = omega (arith, ints) in
    simp to_z-of_z

pub returns-clause-bound : goal.returns-clause-bound
returns-clause-bound c =
    let i1 : FitsSigned w32 c.args.a = c.ranges.a in
    let i2 : FitsSigned w32 c.args.b = c.ranges.b in
    rw (returns-clause-value c) (omega (arith, ints))
