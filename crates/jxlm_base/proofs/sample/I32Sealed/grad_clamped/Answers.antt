use Rattle.std.proofs.Common.{rules, arith, ◌≡◌, ℤ, ◌+ℤ◌, ◌-ℤ◌, ◌≤ℤ◌, ◌+◌, ◌-◌, ◌%◌, FitsSigned, ◌∙◌, of_z, to_z}
use Rattle.std.specs.Int.{w32, int_max, int_min, int_wrap}
use Rattle.std.proofs.lemmas.Int.{clamps, int_wrap_fits, ints, to_z-of_z, wraps}
use Rattle.jxlm_base.proofs.Clamping.{left_clamped, left_not_above, left_not_below}
use Rattle.jxlm_base.proofs.sample.I32Sealed.grad_clamped.Goals as goal

-- the sum that the code computes
reduced : (a b d : ℤ) → FitsSigned w32 a → FitsSigned w32 b → FitsSigned w32 d →
    to_z w32 (((of_z w32 a + of_z w32 b) % 4294967296 + (4294967296 - of_z w32 d)) % 4294967296) ≡ int_wrap w32 (a +ℤ b -ℤ d)
reduced a b d fa fb fd = search (rules, wraps)

between : (x a b : ℤ) → int_min a b ≤ℤ x → x ≤ℤ int_max a b → FitsSigned w32 a → FitsSigned w32 b → FitsSigned w32 x
between x a b l h fa fb = omega (arith, ints, clamps)

pub returns : goal.returns
returns c =
    let n = c.args.n in
    let w = c.args.w in
    let nw = c.args.nw in
    let fn : FitsSigned w32 n = c.ranges.n in
    let fw : FitsSigned w32 w = c.ranges.w in
    let fnw : FitsSigned w32 nw = c.ranges.nw in
    let fl : FitsSigned w32 c.min.result = search rules in
    let fh : FitsSigned w32 c.max.result = search rules in
    let least : c.min.result ≡ int_min n nw = simp to_z-of_z at c.min.ensures.value in
    let most : c.max.result ≡ int_max n nw = simp to_z-of_z at c.max.ensures.value in
    let is : c.clamp-between.result ≡ int_max c.min.result (int_min w c.max.result) = simp to_z-of_z at c.clamp-between.ensures.value in
    let below = left_not_below n w nw c.min.result c.max.result c.clamp-between.result least most is in
    let above = left_not_above n w nw c.min.result c.max.result c.clamp-between.result least most is in
    let fits : FitsSigned w32 (n +ℤ w -ℤ c.clamp-between.result) = between (n +ℤ w -ℤ c.clamp-between.result) n w below above fn fw in
    reduced n w c.clamp-between.result fn fw (search rules) ∙ int_wrap_fits w32 (n +ℤ w -ℤ c.clamp-between.result) fits ∙ left_clamped n w nw c.min.result c.max.result c.clamp-between.result least most is
