use Rattle.jxl_image_header_write.proofs.ColourSpellings.{limit_low, positive_low, tone_parts, tone_spelled, up_to_fits}
use Rattle.std.proofs.Common.{arith}
use Rattle.jxl_image_header_write.proofs.colour.write_tone_if.Goals as goal

pub write_number_if-requires-clause-fits : goal.write_number_if-requires-clause-fits
write_number_if-requires-clause-fits c =
    let low = positive_low c.args.tone.intensity_target (tone_parts c.args.tone c.requires.spelled).target in
    omega (arith, low)

pub write_number_if-requires-2-clause-fits : goal.write_number_if-requires-2-clause-fits
write_number_if-requires-2-clause-fits c =
    let parts = tone_parts c.args.tone c.requires.spelled in
    up_to_fits c.args.tone.intensity_target c.args.tone.min_nits (positive_low c.args.tone.intensity_target parts.target) parts.least

pub write_number_if-requires-3-clause-fits : goal.write_number_if-requires-3-clause-fits
write_number_if-requires-3-clause-fits c =
    let parts = tone_parts c.args.tone c.requires.spelled in
    up_to_fits _ c.args.tone.linear_below (limit_low c.args.tone.relative_to_max_display) parts.below

pub returns : goal.returns
returns c =
    tone_spelled c.args.present _ c.args.tone c.args.bits.now c.write_bundle_if.new.bits c.write_number_if.new.bits c.write_number_if-2.new.bits c.write_flag_if.new.bits c.write_number_if-3.new.bits
    (tone_parts c.args.tone c.requires.spelled)
    c.in_ok-write_bundle_if.ensures c.in_ok-write_number_if.ensures c.in_ok-write_number_if-2.ensures c.in_ok-write_flag_if.ensures c.in_ok-write_number_if-3.ensures
