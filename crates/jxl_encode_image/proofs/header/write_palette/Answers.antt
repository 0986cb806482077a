use Rattle.std.proofs.Common.{refl, arith}
use Rattle.std.proofs.lemmas.Option.{slice_get_within}
use Rattle.jxlm_predictor.specs.Predictions.{predictors}
use Rattle.jxlm_encode_write.proofs.Spelled.{begin_spelled}
use Rattle.jxl_encode_image.proofs.HeaderSpellings.{palette_spelled}
use Rattle.jxl_encode_image.proofs.PaletteFields.{channels_spelled, colours_spelled}
use Rattle.jxl_encode_image.proofs.header.write_palette.Goals as goal

pub write_u32-requires-clause-spelled : goal.write_u32-requires-clause-spelled
write_u32-requires-clause-spelled c = begin_spelled c.args.palette.begin_c c.requires.ranges.begin

pub write_u32-requires-2-clause-spelled : goal.write_u32-requires-2-clause-spelled
write_u32-requires-2-clause-spelled c = channels_spelled c.args.palette.num_c c.requires.ranges.some_channels c.requires.ranges.channels

pub write_u32-requires-3-clause-spelled : goal.write_u32-requires-3-clause-spelled
write_u32-requires-3-clause-spelled c = colours_spelled c.args.palette.nb_colours c.requires.colours

pub write_u32-requires-4-clause-spelled : goal.write_u32-requires-4-clause-spelled
write_u32-requires-4-clause-spelled c = refl

pub write_number-requires-2-clause-fits : goal.write_number-requires-2-clause-fits
write_number-requires-2-clause-fits c =
    let lt = slice_get_within predictors c.number.result c.args.palette.d_pred c.number.ensures.found in
    omega (arith, lt)

pub returns : goal.returns
returns c =
    palette_spelled c.args.palette c.requires c.number.result c.number.ensures.found c.args.bits.now c.write_number.new.bits c.write_u32.new.bits c.write_u32-2.new.bits c.write_u32-3.new.bits c.write_u32-4.new.bits c.write_number-2.new.bits
    c.in_ok-write_number.ensures c.in_ok-write_u32.ensures c.in_ok-write_u32-2.ensures c.in_ok-write_u32-3.ensures c.in_ok-write_u32-4.ensures c.in_ok-write_number-2.ensures
