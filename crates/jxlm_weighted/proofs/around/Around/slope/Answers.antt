use Rattle.std.proofs.Common.{pos, ◌+ℤ◌, ◌-ℤ◌, ◌*ℤ◌, FitsSigned, arith, rules}
use Rattle.std.specs.Int.{w32, w64}
use Rattle.std.proofs.lemmas.Int.{to_z-of_z, ints}
use Rattle.jxlm_weighted.proofs.around.Around.slope.Goals as goal

pub returns-clause-value : goal.returns-clause-value
returns-clause-value c =
    let f0 : FitsSigned w32 c.args.self.now.w = search rules in
    let f1 : FitsSigned w32 c.args.self.now.ne = search rules in
    let f2 : FitsSigned w32 c.args.self.now.n = search rules in
    let f3 : FitsSigned w64 c.args.self.now.w = omega (arith, ints) in
    let f4 : FitsSigned w64 c.args.self.now.ne = omega (arith, ints) in
    let f5 : FitsSigned w64 c.args.self.now.n = omega (arith, ints) in
    let f6 : FitsSigned w64 (c.args.self.now.w *ℤ pos 8) = omega (arith, ints) in
    let f7 : FitsSigned w64 (c.args.self.now.ne *ℤ pos 8) = omega (arith, ints) in
    let f8 : FitsSigned w64 (c.args.self.now.n *ℤ pos 8) = omega (arith, ints) in
    let f9 : FitsSigned w64 (c.args.self.now.w *ℤ pos 8 +ℤ c.args.self.now.ne *ℤ pos 8) = omega (arith, ints) in
    let f10 : FitsSigned w64 (c.args.self.now.w *ℤ pos 8 +ℤ c.args.self.now.ne *ℤ pos 8 -ℤ c.args.self.now.n *ℤ pos 8) = omega (arith, ints) in
    simp to_z-of_z

pub returns-clause-bound : goal.returns-clause-bound
returns-clause-bound c =
    let f0 : FitsSigned w32 c.args.self.now.w = search rules in
    let f1 : FitsSigned w32 c.args.self.now.ne = search rules in
    let f2 : FitsSigned w32 c.args.self.now.n = search rules in
    rw (returns-clause-value c) (omega (arith, ints))
