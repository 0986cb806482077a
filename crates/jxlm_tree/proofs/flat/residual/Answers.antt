use Rattle.std.proofs.Common.{◌≡◌, pos, ◌*ℤ◌, ◌∙◌, rules, w32, to_z, FitsSigned}
use Rattle.std.specs.Int.{int_wrap}
use Rattle.std.proofs.lemmas.Int.{int_wrap-add_same, int_wrap-mul_left, to_z-of_z}
use Rattle.jxlm_bits.specs.Numbers.{unpack}
use Rattle.jxlm_tree.proofs.flat.residual.Goals as goal

pub returns : goal.returns
returns c =
    let l = c.args.leaf.now in
    let signed : FitsSigned w32 c.unpack_signed_u32.result = search rules in
    let residual : FitsSigned w32 c.wrapping_muladd_i32.result = search rules in
    let offset : FitsSigned w32 l.offset = search rules in
    let multiplier : to_z w32 l.multiplier ≡ pos l.multiplier = search rules in
    let made = rw (to_z-of_z w32 c.unpack_signed_u32.result signed, multiplier, to_z-of_z w32 l.offset offset, c.unpack_signed_u32.ensures) at c.wrapping_muladd_i32.ensures in
    to_z-of_z w32 c.wrapping_muladd_i32.result residual ∙ made
    ∙ int_wrap-add_same w32 (int_wrap w32 (unpack c.args.token) *ℤ pos l.multiplier) (unpack c.args.token *ℤ pos l.multiplier) l.offset (int_wrap-mul_left w32 (unpack c.args.token) (pos l.multiplier))
