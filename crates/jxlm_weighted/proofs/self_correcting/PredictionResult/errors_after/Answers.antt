use Rattle.std.proofs.Common.{pos, ◌-ℤ◌, ◌*ℤ◌, FitsSigned, refl, arith, rules}
use Rattle.std.specs.Int.{w32, w64}
use Rattle.std.proofs.lemmas.Int.{to_z-of_z, ints}
use Rattle.jxlm_weighted.proofs.self_correcting.PredictionResult.errors_after.Goals as goal

pub returns : goal.returns
returns c =
    let i : FitsSigned w32 c.args.sample = c.ranges.sample in
    let r : FitsSigned w32 c.reduced.result = search rules in
    let b = c.args.self.now.bound in
    let p : FitsSigned w64 c.args.self.now.prediction = search rules in
    let s0 : FitsSigned w64 c.args.self.now.subpred.s0 = search rules in
    let s1 : FitsSigned w64 c.args.self.now.subpred.s1 = search rules in
    let s2 : FitsSigned w64 c.args.self.now.subpred.s2 = search rules in
    let s3 : FitsSigned w64 c.args.self.now.subpred.s3 = search rules in
    let w : FitsSigned w64 c.args.sample = omega (arith, ints) in
    let w8 : FitsSigned w64 (c.args.sample *ℤ pos 8) = omega (arith, ints) in
    let d : FitsSigned w64 (c.args.self.now.prediction -ℤ c.args.sample *ℤ pos 8) = omega (arith, ints) in
    let e = simp to_z-of_z at c.reduced.ensures in
    let e0 = simp to_z-of_z at c.sub_error.ensures in
    let e1 = simp to_z-of_z at c.sub_error-2.ensures in
    let e2 = simp to_z-of_z at c.sub_error-3.ensures in
    let e3 = simp to_z-of_z at c.sub_error-4.ensures in
    rw (to_z-of_z w32 c.reduced.result r, e, e0, e1, e2, e3) refl
