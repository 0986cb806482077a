use Rattle.std.proofs.Common.{rules, FitsSigned, ◌∙◌}
use Rattle.std.specs.Int.{w32}
use Rattle.std.proofs.lemmas.Int.{to_z-of_z}
use Rattle.jxlm_base.proofs.Wraps.{cast_signed-wraps_i32}
use Rattle.jxlm_base.proofs.sample.I32Sample.from_u32.Goals as goal

pub returns : goal.returns
returns c =
    let fits : FitsSigned w32 c.cast_signed.result = search rules in
    to_z-of_z w32 c.cast_signed.result fits ∙ c.cast_signed.ensures ∙ cast_signed-wraps_i32 c.args.value c.ranges.value.fits
