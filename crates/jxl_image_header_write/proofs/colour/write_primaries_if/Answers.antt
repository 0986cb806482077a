use Rattle.jxl_image_header_write.proofs.ColourSpellings.{primaries_spelled}
use Rattle.jxl_image_header_write.proofs.colour.write_primaries_if.Goals as goal

pub write_enum_if-requires-clause-fits : goal.write_enum_if-requires-clause-fits
write_enum_if-requires-clause-fits c = c.primaries_number-number.ensures.spelled

pub write_enum_if-requires-clause-usual : goal.write_enum_if-requires-clause-usual
write_enum_if-requires-clause-usual c = λ e. c.primaries_number-number.ensures.usual (c.requires.usual e)

pub returns : goal.returns
returns c =
    primaries_spelled c.args.present c.args.mixed c.primaries_number-number.result c.args.bits.now c.write_enum_if.new.bits c.write_custom_if.new.bits c.primaries_number-number.ensures c.in_ok-write_enum_if.ensures
    (rw c.primaries_coordinates-custom.ensures at c.in_ok-write_custom_if.ensures)
