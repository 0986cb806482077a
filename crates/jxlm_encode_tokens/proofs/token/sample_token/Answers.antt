use Rattle.std.proofs.Common.{rules, ◌≡◌, ◌-ℤ◌, ap, ◌∙◌, w32, to_z, of_z, FitsSigned}
use Rattle.std.specs.Int.{int_wrap}
use Rattle.std.proofs.lemmas.Int.{to_z-of_z}
use Rattle.jxlm_bits.specs.Numbers.{unpack}
use Rattle.jxlm_encode_write.proofs.TreeLaws.{unpack_packed}
use Rattle.jxlm_encode_tokens.proofs.OneToken.{is_token, reduced_at_once}
use Rattle.jxlm_encode_tokens.proofs.token.sample_token.Goals as goal

pub returns : goal.returns
returns g c =
    let w = g.S.Sealed.width in
    let to_int = g.S.Sealed.to_int in
    let leaf = c.args.leaf.now in
    let s = to_int c.args.sample in
    let of_sample : FitsSigned w32 c.to_i32.result = search rules in
    let of_offset : FitsSigned w32 leaf.offset = search rules in
    let sample_is : to_z w32 (of_z w32 c.to_i32.result) ≡ s = to_z-of_z w32 c.to_i32.result of_sample ∙ c.to_i32.ensures.value in
    let rest_is : c.residual-rest.result ≡ int_wrap w32 (s -ℤ leaf.offset -ℤ c.args.prediction) =
    c.residual-rest.ensures
    ∙ ap (λ z. int_wrap w32 (z -ℤ to_z w32 (of_z w32 leaf.offset) -ℤ to_z w32 (of_z w32 c.args.prediction))) sample_is
    ∙ ap (λ z. int_wrap w32 (s -ℤ z -ℤ to_z w32 (of_z w32 c.args.prediction))) (to_z-of_z w32 leaf.offset of_offset)
    ∙ ap (λ z. int_wrap w32 (s -ℤ leaf.offset -ℤ z)) (to_z-of_z w32 c.args.prediction c.ranges.prediction) in
    let of_rest : FitsSigned w32 c.residual-rest.result = search rules in
    let of_last : FitsSigned w32 c.to_i32-2.result = search rules in
    let number : c.to_i32-2.result ≡ int_wrap w (s -ℤ leaf.offset -ℤ c.args.prediction) =
    c.to_i32-2.ensures.value ∙ ap to_int c.from_i32.ensures ∙ g.met.S.Sealed.to_int_from_int (int_wrap w (to_z w32 (of_z w32 c.residual-rest.result)))
    ∙ ap (int_wrap w) (to_z-of_z w32 c.residual-rest.result of_rest)
    ∙ reduced_at_once w g.met.S.Sealed.wraps_after_i32 c.residual-rest.result (s -ℤ leaf.offset -ℤ c.args.prediction) rest_is in
    let token_is : unpack c.pack.result ≡ int_wrap w (s -ℤ leaf.offset -ℤ c.args.prediction) =
    ap unpack c.pack.ensures ∙ unpack_packed (to_z w32 (of_z w32 c.to_i32-2.result)) ∙ to_z-of_z w32 c.to_i32-2.result of_last ∙ number in
    is_token w leaf c.args.prediction s c.pack.result c.requires c.to_i32.ensures.fits token_is
