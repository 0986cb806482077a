use Rattle.std.proofs.Common.{rules, FitsSigned, ◌∙◌, ap, pos}
use Rattle.std.specs.Int.{w16, w32, int_wrap}
use Rattle.std.proofs.lemmas.Int.{to_z-of_z}
use Rattle.jxlm_base.specs.Inner.SampleLaws.{int_wrap-narrow}
use Rattle.jxlm_base.proofs.Wraps.{cast_signed-wraps_i32}
use Rattle.jxlm_base.proofs.sample.I16Sample.from_u32.Goals as goal

pub returns : goal.returns
returns c =
    let fits : FitsSigned w16 c.reduced_to_i16.result = search rules in
    let fits_32 : FitsSigned w32 c.cast_signed.result = search rules in
    let is = simp to_z-of_z at c.reduced_to_i16.ensures in
    to_z-of_z w16 c.reduced_to_i16.result fits ∙ is
    ∙ ap (int_wrap w16) (c.cast_signed.ensures ∙ cast_signed-wraps_i32 c.args.value c.ranges.value.fits)
    ∙ int_wrap-narrow (pos c.args.value)
