use Rattle.std.proofs.Common.{◌≡◌, ap, ◌∙◌, rules, w32, w64, FitsSigned}
use Rattle.std.specs.Int.{int_wrap}
use Rattle.std.proofs.lemmas.Int.{to_z-of_z}
use Rattle.jxlm_inverse.proofs.palette.sample_of.Goals as goal

pub returns : goal.returns
returns g c =
    let from_int = g.S.Sealed.from_int in
    let w = g.S.Sealed.width in
    let fits : FitsSigned w32 c.reduced.result = search rules in
    let is : c.reduced.result ≡ int_wrap w32 c.args.value = cc (c.reduced.ensures, to_z-of_z w64 c.args.value c.ranges.value) in
    c.from_i32.ensures ∙ ap (λ z. from_int (int_wrap w z)) (to_z-of_z w32 c.reduced.result fits ∙ is) ∙ ap from_int (g.met.S.Sealed.wraps_after_i32 c.args.value)
