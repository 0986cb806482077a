use Rattle.std.proofs.Common.{◌*◌, ◌≤◌, ◌^◌, ◌+◌, ◌+ℤ◌, unsigned_abs, FitsSigned, ◌∙◌, refl, arith, rules}
use Rattle.std.specs.Int.{w32, w64}
use Rattle.std.proofs.lemmas.Int.{to_z-of_z, fits_signed_from_abs}
use Rattle.jxlm_weighted.proofs.Ranges.{abs_add}
use Rattle.jxlm_weighted.proofs.self_correcting.SubPredictions.last.Goals as goal

pub overflow_add-steer-2 : goal.overflow_add-steer-2
overflow_add-steer-2 c =
    let r0 : FitsSigned w64 c.weighed.result = search rules in
    let r1 : FitsSigned w64 c.scaled-down.result = search rules in
    let r2 : FitsSigned w64 c.scaled-right.result = search rules in
    let d1 : FitsSigned w64 c.difference.result = search rules in
    let d2 : FitsSigned w64 c.difference-2.result = search rules in
    let b0 = c.weighed.ensures.bound in
    let e1 = c.difference.ensures.bound in
    let e2 = c.difference-2.ensures.bound in
    let b1 = simp to_z-of_z at c.scaled-down.ensures.bound in
    let b2 = simp to_z-of_z at c.scaled-right.ensures.bound in
    let n1 : unsigned_abs c.scaled-down.result ≤ 31 * 2 ^ 35 = omega (arith, b1, e1) in
    let n2 : unsigned_abs c.scaled-right.result ≤ 31 * 2 ^ 35 = omega (arith, b2, e2) in
    let s1 = abs_add c.weighed.result c.scaled-down.result in
    let s2 = abs_add (c.weighed.result +ℤ c.scaled-down.result) c.scaled-right.result in
    let g1 : FitsSigned w64 (c.weighed.result +ℤ c.scaled-down.result) = fits_signed_from_abs w64 _ (omega (arith, b0, n1, s1)) in
    let l2 : unsigned_abs (c.weighed.result +ℤ c.scaled-down.result +ℤ c.scaled-right.result) ≤ 93 * 2 ^ 31 + 62 * 2 ^ 35 = omega (arith, b0, n1, n2, s1, s2) in
    let g2 : FitsSigned w64 (c.weighed.result +ℤ c.scaled-down.result +ℤ c.scaled-right.result) = fits_signed_from_abs w64 _ (omega (arith, l2)) in
    simp to_z-of_z g2

pub eased-requires : goal.eased-requires
eased-requires c =
    let r0 : FitsSigned w64 c.weighed.result = search rules in
    let r1 : FitsSigned w64 c.scaled-down.result = search rules in
    let r2 : FitsSigned w64 c.scaled-right.result = search rules in
    let d1 : FitsSigned w64 c.difference.result = search rules in
    let d2 : FitsSigned w64 c.difference-2.result = search rules in
    let b0 = c.weighed.ensures.bound in
    let e1 = c.difference.ensures.bound in
    let e2 = c.difference-2.ensures.bound in
    let b1 = simp to_z-of_z at c.scaled-down.ensures.bound in
    let b2 = simp to_z-of_z at c.scaled-right.ensures.bound in
    let n1 : unsigned_abs c.scaled-down.result ≤ 31 * 2 ^ 35 = omega (arith, b1, e1) in
    let n2 : unsigned_abs c.scaled-right.result ≤ 31 * 2 ^ 35 = omega (arith, b2, e2) in
    let s1 = abs_add c.weighed.result c.scaled-down.result in
    let s2 = abs_add (c.weighed.result +ℤ c.scaled-down.result) c.scaled-right.result in
    let g1 : FitsSigned w64 (c.weighed.result +ℤ c.scaled-down.result) = fits_signed_from_abs w64 _ (omega (arith, b0, n1, s1)) in
    let l2 : unsigned_abs (c.weighed.result +ℤ c.scaled-down.result +ℤ c.scaled-right.result) ≤ 93 * 2 ^ 31 + 62 * 2 ^ 35 = omega (arith, b0, n1, n2, s1, s2) in
    let g2 : FitsSigned w64 (c.weighed.result +ℤ c.scaled-down.result +ℤ c.scaled-right.result) = fits_signed_from_abs w64 _ (omega (arith, l2)) in
    simp to_z-of_z l2

pub returns-clause-value : goal.returns-clause-value
returns-clause-value c =
    let r0 : FitsSigned w64 c.weighed.result = search rules in
    let r1 : FitsSigned w64 c.scaled-down.result = search rules in
    let r2 : FitsSigned w64 c.scaled-right.result = search rules in
    let d1 : FitsSigned w64 c.difference.result = search rules in
    let d2 : FitsSigned w64 c.difference-2.result = search rules in
    let b0 = c.weighed.ensures.bound in
    let e1 = c.difference.ensures.bound in
    let e2 = c.difference-2.ensures.bound in
    let b1 = simp to_z-of_z at c.scaled-down.ensures.bound in
    let b2 = simp to_z-of_z at c.scaled-right.ensures.bound in
    let n1 : unsigned_abs c.scaled-down.result ≤ 31 * 2 ^ 35 = omega (arith, b1, e1) in
    let n2 : unsigned_abs c.scaled-right.result ≤ 31 * 2 ^ 35 = omega (arith, b2, e2) in
    let s1 = abs_add c.weighed.result c.scaled-down.result in
    let s2 = abs_add (c.weighed.result +ℤ c.scaled-down.result) c.scaled-right.result in
    let g1 : FitsSigned w64 (c.weighed.result +ℤ c.scaled-down.result) = fits_signed_from_abs w64 _ (omega (arith, b0, n1, s1)) in
    let l2 : unsigned_abs (c.weighed.result +ℤ c.scaled-down.result +ℤ c.scaled-right.result) ≤ 93 * 2 ^ 31 + 62 * 2 ^ 35 = omega (arith, b0, n1, n2, s1, s2) in
    let g2 : FitsSigned w64 (c.weighed.result +ℤ c.scaled-down.result +ℤ c.scaled-right.result) = fits_signed_from_abs w64 _ (omega (arith, l2)) in
    let i0 : FitsSigned w32 c.args.around.now.n = search rules in
    let i1 : FitsSigned w32 c.args.around.now.nn = search rules in
    let i2 : FitsSigned w32 c.args.around.now.nw = search rules in
    let i3 : FitsSigned w32 c.args.around.now.w = search rules in
    let r4 : FitsSigned w64 c.eased.result = search rules in
    let v1 = simp to_z-of_z at c.difference.ensures.value in
    let v2 = simp to_z-of_z at c.difference-2.ensures.value in
    let v3 = simp to_z-of_z at c.scaled-down.ensures.value in
    let v4 = simp to_z-of_z at c.scaled-right.ensures.value in
    let v5 = simp to_z-of_z at c.eased.ensures.value in
    to_z-of_z w64 c.eased.result r4 ∙ v5 ∙ rw (c.weighed.ensures.value, v3, v4, v1, v2) refl
