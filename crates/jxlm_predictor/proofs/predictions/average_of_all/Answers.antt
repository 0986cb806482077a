use Rattle.std.proofs.Common.{◌≡◌, FitsSigned, pos, ◌-ℤ◌, ◌+ℤ◌, ◌*ℤ◌, ap, arith}
use Rattle.std.specs.Prelude.{int_div}
use Rattle.std.specs.Int.{w64}
use Rattle.std.proofs.lemmas.Int.{to_z-of_z, ints, quot_fits}
use Rattle.jxlm_predictor.proofs.predictions.average_of_all.Goals as goal

pub returns : goal.returns
returns c =
    let e1 = c.nearest.ensures.value in
    let b1 = c.nearest.ensures.bound in
    let e2 = c.farther.ensures.value in
    let b2 = c.farther.ensures.bound in
    let f1 : FitsSigned w64 c.nearest.result = omega (arith, ints) in
    let f2 : FitsSigned w64 c.farther.result = omega (arith, ints) in
    let f3 : FitsSigned w64 (c.nearest.result +ℤ c.farther.result) = omega (arith, ints) in
    let f4 : FitsSigned w64 (c.nearest.result +ℤ c.farther.result +ℤ pos 8) = omega (arith, ints) in
    let f5 : FitsSigned w64 (int_div (c.nearest.result +ℤ c.farther.result +ℤ pos 8) (pos 16)) = quot_fits w64 _ _ f4 (omega (arith, ints)) in
    let same : c.nearest.result +ℤ c.farther.result +ℤ pos 8 ≡ pos 6 *ℤ c.args.around.now.n -ℤ pos 2 *ℤ c.args.around.now.nn +ℤ pos 7 *ℤ c.args.around.now.w +ℤ c.args.around.now.ww +ℤ c.args.around.now.nee +ℤ pos 3 *ℤ c.args.around.now.ne +ℤ pos 8 = omega (arith, ints) in
    simp to_z-of_z (ap (λ z. int_div z (pos 16)) same)
