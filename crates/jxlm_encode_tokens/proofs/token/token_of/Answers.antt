use Rattle.std.proofs.Common.{rules, ◌≡◌, ◌<◌, ◌^◌, ℤ, pos, ◌-ℤ◌, ◌*ℤ◌, refl, ap, ◌∙◌, w32, to_z, of_z, FitsSigned}
use Rattle.std.specs.Int.{cast_signed, int_wrap}
use Rattle.std.proofs.lemmas.Int.{to_z-of_z}
use Rattle.jxlm_bits.specs.Numbers.{unpack}
use Rattle.jxlm_encode_write.proofs.TreeLaws.{unpack_packed}
use Rattle.jxlm_encode_tokens.proofs.Inverse.{is_only_token, read_as_signed}
use Rattle.jxlm_encode_tokens.proofs.token.token_of.Goals as goal

pub returns : goal.returns
returns c =
    let leaf = c.args.leaf.now in
    let v = c.inverse.result in
    let d : ℤ = c.args.sample -ℤ leaf.offset -ℤ c.args.prediction in
    let of_offset : FitsSigned w32 leaf.offset = search rules in
    let of_rest : FitsSigned w32 c.residual-rest.result = search rules in
    let of_product : FitsSigned w32 c.product.result = search rules in
    let small : c.pack.result < 2 ^ 32 = search rules in
    let low : v < 2 ^ 32 = search rules in
    let rest_is : to_z w32 (of_z w32 c.residual-rest.result) ≡ int_wrap w32 d =
    to_z-of_z w32 c.residual-rest.result of_rest ∙ c.residual-rest.ensures
    ∙ ap (λ z. int_wrap w32 (z -ℤ to_z w32 (of_z w32 leaf.offset) -ℤ to_z w32 (of_z w32 c.args.prediction))) (to_z-of_z w32 c.args.sample c.ranges.sample)
    ∙ ap (λ z. int_wrap w32 (c.args.sample -ℤ z -ℤ to_z w32 (of_z w32 c.args.prediction))) (to_z-of_z w32 leaf.offset of_offset)
    ∙ ap (λ z. int_wrap w32 (c.args.sample -ℤ leaf.offset -ℤ z)) (to_z-of_z w32 c.args.prediction c.ranges.prediction) in
    let token_is : unpack c.pack.result ≡ int_wrap w32 (int_wrap w32 d *ℤ int_wrap w32 (pos v)) =
    ap unpack c.pack.ensures ∙ unpack_packed (to_z w32 (of_z w32 c.product.result)) ∙ to_z-of_z w32 c.product.result of_product ∙ c.product.ensures
    ∙ ap (λ z. int_wrap w32 (z *ℤ cast_signed w32 v)) rest_is ∙ ap (λ z. int_wrap w32 (int_wrap w32 d *ℤ z)) (read_as_signed v low) in
    is_only_token leaf.multiplier v c.inverse.ensures leaf c.args.prediction c.args.sample c.pack.result refl c.requires c.ranges.sample small token_is
