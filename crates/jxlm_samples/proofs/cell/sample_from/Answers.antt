use Rattle.std.proofs.Common.{rules, ℤ, pos, ◌≡◌, ◌+ℤ◌, ◌*ℤ◌, ap, ◌∙◌, w32, to_z, of_z, FitsSigned}
use Rattle.std.specs.Int.{Width, int_wrap}
use Rattle.std.proofs.lemmas.Int.{int_wrap-add_left, int_wrap-add_right, int_wrap-add_same, int_wrap-mul_left, to_z-of_z}
use Rattle.jxlm_bits.specs.Numbers.{unpack}
use Rattle.jxlm_samples.proofs.cell.sample_from.Goals as goal

-- wrapping on the way changes nothing
wrapped_steps : (w : Width) (u mul off p : ℤ) → int_wrap w (int_wrap w (int_wrap w u *ℤ mul +ℤ off) +ℤ int_wrap w p) ≡ int_wrap w (u *ℤ mul +ℤ off +ℤ p)
wrapped_steps w u mul off p =
    int_wrap-add_right w (int_wrap w (int_wrap w u *ℤ mul +ℤ off)) p
    ∙ int_wrap-add_left w (int_wrap w u *ℤ mul +ℤ off) p
    ∙ int_wrap-add_same w (int_wrap w u *ℤ mul +ℤ off) (u *ℤ mul +ℤ off) p (int_wrap-add_same w (int_wrap w u *ℤ mul) (u *ℤ mul) off (int_wrap-mul_left w u mul))

module _ {X : Type 0} (w : Width) (to_int : X → ℤ) (from_int : ℤ → X) (back : (n : ℤ) → to_int (from_int n) ≡ n) where
  sample_steps : (u mul off p : ℤ) (a b c r : X) → a ≡ from_int (int_wrap w u) → b ≡ from_int (int_wrap w (to_int a *ℤ mul +ℤ off)) → c ≡ from_int (int_wrap w p) →
      r ≡ from_int (int_wrap w (to_int b +ℤ to_int c)) → r ≡ from_int (int_wrap w (u *ℤ mul +ℤ off +ℤ p))
  sample_steps u mul off p a b c r ha hb hc hr =
      let ia : to_int a ≡ int_wrap w u = ap to_int ha ∙ back (int_wrap w u) in
      let ib : to_int b ≡ int_wrap w (int_wrap w u *ℤ mul +ℤ off) = ap to_int hb ∙ back (int_wrap w (to_int a *ℤ mul +ℤ off)) ∙ ap (λ z. int_wrap w (z *ℤ mul +ℤ off)) ia in
      let ic : to_int c ≡ int_wrap w p = ap to_int hc ∙ back (int_wrap w p) in
      hr ∙ ap (λ z. from_int (int_wrap w (z +ℤ to_int c))) ib ∙ ap (λ z. from_int (int_wrap w (int_wrap w (int_wrap w u *ℤ mul +ℤ off) +ℤ z))) ic ∙ ap from_int (wrapped_steps w u mul off p)

pub returns : goal.returns
returns g c =
    let w = g.S.Sealed.width in
    let to_int = g.S.Sealed.to_int in
    let from_int = g.S.Sealed.from_int in
    let predicted : FitsSigned w32 c.args.predicted = c.ranges.predicted in
    let offset : FitsSigned w32 c.args.leaf.offset = search rules in
    let multiplier : to_z w32 c.args.leaf.multiplier ≡ pos c.args.leaf.multiplier = search rules in
    sample_steps w to_int from_int g.met.S.Sealed.to_int_from_int (unpack c.args.token) (pos c.args.leaf.multiplier) c.args.leaf.offset c.args.predicted
    c.unpack_signed_u32.result c.wrapping_muladd_i32.result c.from_i32.result c.add.result c.unpack_signed_u32.ensures
    (c.wrapping_muladd_i32.ensures ∙ ap (λ z. from_int (int_wrap w (to_int c.unpack_signed_u32.result *ℤ z +ℤ to_z w32 (of_z w32 c.args.leaf.offset)))) multiplier
    ∙ ap (λ z. from_int (int_wrap w (to_int c.unpack_signed_u32.result *ℤ pos c.args.leaf.multiplier +ℤ z))) (to_z-of_z w32 c.args.leaf.offset offset))
    (c.from_i32.ensures ∙ ap (λ z. from_int (int_wrap w z)) (to_z-of_z w32 c.args.predicted predicted))
    c.add.ensures
