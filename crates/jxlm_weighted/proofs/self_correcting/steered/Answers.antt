use Rattle.std.proofs.Common.{◌*◌, ◌≤◌, ◌^◌, ℤ, ◌+ℤ◌, unsigned_abs, FitsSigned, ◌∙◌, refl, arith, rules}
use Rattle.std.specs.Int.{w32, w64}
use Rattle.std.proofs.lemmas.Int.{to_z-of_z, ints}
use Rattle.jxlm_weighted.proofs.self_correcting.steered.Goals as goal

three : (a b c : ℤ) → FitsSigned w32 a → FitsSigned w32 b → FitsSigned w32 c → unsigned_abs (a +ℤ b +ℤ c) ≤ 3 * 2 ^ 31
three a b c f g h = omega (arith, ints)

pub eased-requires : goal.eased-requires
eased-requires c =
    let i0 : FitsSigned w32 c.args.a = c.ranges.a in
    let w0 : FitsSigned w64 c.args.a = omega (arith, ints) in
    let i1 : FitsSigned w32 c.args.b = c.ranges.b in
    let w1 : FitsSigned w64 c.args.b = omega (arith, ints) in
    let i2 : FitsSigned w32 c.args.c = c.ranges.c in
    let w2 : FitsSigned w64 c.args.c = omega (arith, ints) in
    let g1 : FitsSigned w64 (c.args.a +ℤ c.args.b) = omega (arith, ints) in
    let g2 : FitsSigned w64 (c.args.a +ℤ c.args.b +ℤ c.args.c) = omega (arith, ints) in
    let r : FitsSigned w64 c.scaled.result = search rules in
    let q = simp to_z-of_z at c.scaled.ensures.bound in
    let t = three c.args.a c.args.b c.args.c i0 i1 i2 in
    simp to_z-of_z (omega (arith, q, t))

pub returns-clause-value : goal.returns-clause-value
returns-clause-value c =
    let i0 : FitsSigned w32 c.args.a = c.ranges.a in
    let w0 : FitsSigned w64 c.args.a = omega (arith, ints) in
    let i1 : FitsSigned w32 c.args.b = c.ranges.b in
    let w1 : FitsSigned w64 c.args.b = omega (arith, ints) in
    let i2 : FitsSigned w32 c.args.c = c.ranges.c in
    let w2 : FitsSigned w64 c.args.c = omega (arith, ints) in
    let g1 : FitsSigned w64 (c.args.a +ℤ c.args.b) = omega (arith, ints) in
    let g2 : FitsSigned w64 (c.args.a +ℤ c.args.b +ℤ c.args.c) = omega (arith, ints) in
    let r : FitsSigned w64 c.scaled.result = search rules in
    let i3 : FitsSigned w32 c.args.sample = c.ranges.sample in
    let r2 : FitsSigned w64 c.eased.result = search rules in
    let e1 = simp to_z-of_z at c.scaled.ensures.value in
    let e2 = simp to_z-of_z at c.eased.ensures.value in
    simp to_z-of_z (e2 ∙ rw e1 refl)
