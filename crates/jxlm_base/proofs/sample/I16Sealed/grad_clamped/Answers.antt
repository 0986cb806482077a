use Rattle.std.proofs.Common.{rules, arith, ◌≡◌, ℤ, ◌+ℤ◌, ◌-ℤ◌, ◌≤ℤ◌, ◌+◌, ◌-◌, ◌%◌, FitsSigned, ◌∙◌, of_z, to_z}
use Rattle.std.specs.Int.{w16, int_max, int_min, int_wrap}
use Rattle.std.proofs.lemmas.Int.{int_wrap_fits, ints, to_z-of_z, wraps}
use Rattle.jxlm_base.proofs.Clamping.{not_above, not_below, not_clamped}
use Rattle.jxlm_base.proofs.sample.I16Sealed.grad_clamped.Goals as goal

-- the sum that the code computes
reduced : (a b d : ℤ) → FitsSigned w16 a → FitsSigned w16 b → FitsSigned w16 d →
    to_z w16 (((of_z w16 a + (65536 - of_z w16 b)) % 65536 + of_z w16 d) % 65536) ≡ int_wrap w16 (a -ℤ b +ℤ d)
reduced a b d fa fb fd = search (rules, wraps)

between : (x low high : ℤ) → low ≤ℤ x → x ≤ℤ high → FitsSigned w16 low → FitsSigned w16 high → FitsSigned w16 x
between x low high a b l h = omega (arith, ints)

pub returns-else-high-nw : goal.returns-else-high-nw
returns-else-high-nw c =
    let n = c.args.n in
    let w = c.args.w in
    let nw = c.args.nw in
    let fn : FitsSigned w16 n = c.ranges.n in
    let fw : FitsSigned w16 w = c.ranges.w in
    let least : c.min-low.result ≡ int_min n w = simp to_z-of_z at c.min-low.ensures.value in
    let most : c.max-high.result ≡ int_max n w = simp to_z-of_z at c.max-high.ensures.value in
    let low : c.min-low.result ≤ℤ nw = omega (arith, ints, c.if-nw-low.false) in
    let high : nw ≤ℤ c.max-high.result = omega (arith, ints, c.if-high-nw.false) in
    let above = not_below n w nw c.min-low.result c.max-high.result least most low high in
    let below = not_above n w nw c.min-low.result c.max-high.result least most low high in
    let fits : FitsSigned w16 (n -ℤ nw +ℤ w) = between (n -ℤ nw +ℤ w) c.min-low.result c.max-high.result above below (search rules) (search rules) in
    reduced n nw w c.ranges.n c.ranges.nw c.ranges.w ∙ int_wrap_fits w16 (n -ℤ nw +ℤ w) fits ∙ not_clamped n w nw c.min-low.result c.max-high.result least most low high
