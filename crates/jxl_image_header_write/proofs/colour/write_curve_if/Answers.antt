use Rattle.jxl_image_header_write.proofs.ColourSpellings.{curve_spelled}
use Rattle.jxl_image_header_write.proofs.colour.write_curve_if.Goals as goal

pub write_enum_if-requires-clause-fits : goal.write_enum_if-requires-clause-fits
write_enum_if-requires-clause-fits c = c.curve_number-number.ensures.spelled

pub write_enum_if-requires-clause-usual : goal.write_enum_if-requires-clause-usual
write_enum_if-requires-clause-usual c = λ e. c.curve_number-number.ensures.usual (c.requires.usual e)

pub returns : goal.returns
returns c =
    curve_spelled c.args.present c.args.function c.curve_number-number.result c.args.bits.now c.write_flag_if.new.bits c.write_enum_if.new.bits c.curve_number-number.ensures c.in_ok-write_flag_if.ensures
    c.in_ok-write_enum_if.ensures
