use Rattle.std.proofs.Common.{◌≡◌, ◌∙◌, ap, ℤ, ◌+ℤ◌, ◌-ℤ◌, ◌+◌, ◌-◌, ◌%◌, to_z, of_z, FitsSigned, rules, w32}
use Rattle.std.specs.Int.{int_wrap}
use Rattle.std.proofs.lemmas.Int.{wraps}
use Rattle.jxlm_samples.proofs.above.reduced_sum.Goals as goal

-- the sum that the code computes
reduced : (a b d : ℤ) → FitsSigned w32 a → FitsSigned w32 b → FitsSigned w32 d →
    to_z w32 (((of_z w32 a + (4294967296 - of_z w32 b)) % 4294967296 + of_z w32 d) % 4294967296) ≡ int_wrap w32 (a -ℤ b +ℤ d)
reduced a b d fa fb fd = search (rules, wraps)

pub returns : goal.returns
returns g c =
    let to_int = g.S.Sealed.to_int in
    let fa : FitsSigned w32 c.to_i32.result = search rules in
    let fb : FitsSigned w32 c.to_i32-2.result = search rules in
    let fd : FitsSigned w32 c.to_i32-3.result = search rules in
    reduced c.to_i32.result c.to_i32-2.result c.to_i32-3.result fa fb fd
    ∙ ap (λ z. int_wrap w32 (z -ℤ c.to_i32-2.result +ℤ c.to_i32-3.result)) c.to_i32.ensures.value
    ∙ ap (λ z. int_wrap w32 (to_int c.args.w -ℤ z +ℤ c.to_i32-3.result)) c.to_i32-2.ensures.value
    ∙ ap (λ z. int_wrap w32 (to_int c.args.w -ℤ to_int c.args.nw +ℤ z)) c.to_i32-3.ensures.value
