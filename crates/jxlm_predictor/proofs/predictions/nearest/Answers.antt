use Rattle.std.proofs.Common.{FitsSigned, pos, ◌-ℤ◌, ◌+ℤ◌, ◌*ℤ◌, arith, rules}
use Rattle.std.specs.Int.{w32, w64}
use Rattle.std.proofs.lemmas.Int.{to_z-of_z, ints}
use Rattle.jxlm_predictor.proofs.predictions.nearest.Goals as goal

pub returns-clause-value : goal.returns-clause-value
returns-clause-value c =
    let fn : FitsSigned w32 c.args.around.now.n = search rules in
    let fnn : FitsSigned w32 c.args.around.now.nn = search rules in
    let fw : FitsSigned w32 c.args.around.now.w = search rules in
    let f1 : FitsSigned w64 (pos 6 *ℤ c.args.around.now.n -ℤ pos 2 *ℤ c.args.around.now.nn) = omega (arith, ints) in
    let f2 : FitsSigned w64 (pos 6 *ℤ c.args.around.now.n -ℤ pos 2 *ℤ c.args.around.now.nn +ℤ pos 7 *ℤ c.args.around.now.w) = omega (arith, ints) in
    let g1 : FitsSigned w64 (pos 6 *ℤ c.args.around.now.n) = omega (arith, ints) in
    let g2 : FitsSigned w64 (pos 2 *ℤ c.args.around.now.nn) = omega (arith, ints) in
    let g3 : FitsSigned w64 (pos 7 *ℤ c.args.around.now.w) = omega (arith, ints) in
    let g4 : FitsSigned w64 c.args.around.now.n = omega (arith, ints) in
    let g5 : FitsSigned w64 c.args.around.now.nn = omega (arith, ints) in
    let g6 : FitsSigned w64 c.args.around.now.w = omega (arith, ints) in
    simp to_z-of_z

pub returns-clause-bound : goal.returns-clause-bound
returns-clause-bound c =
    let fn : FitsSigned w32 c.args.around.now.n = search rules in
    let fnn : FitsSigned w32 c.args.around.now.nn = search rules in
    let fw : FitsSigned w32 c.args.around.now.w = search rules in
    rw (returns-clause-value c) (omega (arith, ints))
