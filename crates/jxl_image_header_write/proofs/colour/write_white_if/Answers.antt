use Rattle.jxl_image_header_write.proofs.ColourSpellings.{white_spelled}
use Rattle.jxl_image_header_write.proofs.colour.write_white_if.Goals as goal

pub write_enum_if-requires-clause-fits : goal.write_enum_if-requires-clause-fits
write_enum_if-requires-clause-fits c = c.white_number-number.ensures.spelled

pub write_enum_if-requires-clause-usual : goal.write_enum_if-requires-clause-usual
write_enum_if-requires-clause-usual c = λ e. c.white_number-number.ensures.usual (c.requires.usual e)

pub returns : goal.returns
returns c =
    white_spelled c.args.present c.args.white c.white_number-number.result c.args.bits.now c.write_enum_if.new.bits c.write_chromaticity_if.new.bits c.white_number-number.ensures c.in_ok-write_enum_if.ensures
    (rw c.white_coordinates-point.ensures at c.in_ok-write_chromaticity_if.ensures)
