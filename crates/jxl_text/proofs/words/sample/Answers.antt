use Rattle.std.proofs.Common.{◌≡◌, ap, sym, ◌∙◌, arith}
use Rattle.std.specs.Int.{int_wrap, w32}
use mir.Val.{of_z}
use Rattle.std.proofs.lemmas.Int.{to_z-of_z}
use Rattle.jxl_text.proofs.Samples.{not_reduced, wider_none}
use Rattle.jxl_text.proofs.words.sample.Goals as goal

pub returns-else-to_i32-number : goal.returns-else-to_i32-number
returns-else-to_i32-number g c =
    not_reduced g.S.Sealed.width c.args.word.now c.in_ok-number.number c.to_i32.result g.met.S.Sealed.fits_i32 c.in_ok-number.ensures
    (c.to_i32.ensures.value ∙ ap g.S.Sealed.to_int c.from_i32-sample.ensures ∙ g.met.S.Sealed.to_int_from_int _ ∙ ap (int_wrap g.S.Sealed.width) (to_z-of_z w32 c.in_ok-number.number c.in_ok-number.ensures.fits)) (λ e. c.if-to_i32-number.false (ap (of_z w32) e))
