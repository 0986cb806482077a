use Rattle.std.proofs.Common.{ℕ, List, ◌+◌, ◌*◌, ◌^◌, ◌≤◌, subst, sym, arith}
use Rattle.std.specs.Prelude.{sum}
use Rattle.jxlm_weighted.specs.SelfCorrecting.{shift_down}
use Rattle.jxlm_weighted.proofs.Ranges.{four, shifted_total, weight_bounds}
use Rattle.jxlm_weighted.proofs.self_correcting.Counts.weights.Goals as goal

least_of : (a b c e : ℕ) → 4 ≤ a → 4 ≤ b → 4 ≤ c → 4 ≤ e → a ≤ 4 + 15 * 2 ^ 24 → b ≤ 4 + 15 * 2 ^ 24 → c ≤ 4 + 15 * 2 ^ 24 → e ≤ 4 + 15 * 2 ^ 24 → (13 ≤ sum (shift_down (four a b c e))) × (sum (shift_down (four a b c e)) ≤ 31)
least_of a b c e l m n o p q r s = shifted_total a b c e (omega arith) (omega arith)

pub returns-clause-least : goal.returns-clause-least
returns-clause-least c =
    let h = c.args.header.now in
    let a = c.args.self.now in
    let l0 = weight_bounds h.wp_w0 a.s0 c.requires.w0 in
    let l1 = weight_bounds h.wp_w1 a.s1 c.requires.w1 in
    let l2 = weight_bounds h.wp_w2 a.s2 c.requires.w2 in
    let l3 = weight_bounds h.wp_w3 a.s3 c.requires.w3 in
    let e0 = c.weight.ensures.value in
    let e1 = c.weight-2.ensures.value in
    let e2 = c.weight-3.ensures.value in
    let e3 = c.weight-4.ensures.value in
    let both = least_of c.weight.result c.weight-2.result c.weight-3.result c.weight-4.result (omega (arith, e0, l0.0)) (omega (arith, e1, l1.0)) (omega (arith, e2, l2.0)) (omega (arith, e3, l3.0)) (omega (arith, e0, l0.1)) (omega (arith, e1, l1.1)) (omega (arith, e2, l2.1)) (omega (arith, e3, l3.1)) in
    let P : List ℕ → Type 0 = λ g. 13 ≤ sum g in
    subst P (sym c.shifted.ensures) both.0

pub returns-clause-greatest : goal.returns-clause-greatest
returns-clause-greatest c =
    let h = c.args.header.now in
    let a = c.args.self.now in
    let l0 = weight_bounds h.wp_w0 a.s0 c.requires.w0 in
    let l1 = weight_bounds h.wp_w1 a.s1 c.requires.w1 in
    let l2 = weight_bounds h.wp_w2 a.s2 c.requires.w2 in
    let l3 = weight_bounds h.wp_w3 a.s3 c.requires.w3 in
    let e0 = c.weight.ensures.value in
    let e1 = c.weight-2.ensures.value in
    let e2 = c.weight-3.ensures.value in
    let e3 = c.weight-4.ensures.value in
    let both = least_of c.weight.result c.weight-2.result c.weight-3.result c.weight-4.result (omega (arith, e0, l0.0)) (omega (arith, e1, l1.0)) (omega (arith, e2, l2.0)) (omega (arith, e3, l3.0)) (omega (arith, e0, l0.1)) (omega (arith, e1, l1.1)) (omega (arith, e2, l2.1)) (omega (arith, e3, l3.1)) in
    let P : List ℕ → Type 0 = λ g. sum g ≤ 31 in
    subst P (sym c.shifted.ensures) both.1
