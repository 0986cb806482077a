use Rattle.jxl_image_header_write.proofs.ColourSpellings.{intent_spelled}
use Rattle.jxl_image_header_write.proofs.colour.write_intent_if.Goals as goal

pub write_enum_if-requires-clause-usual : goal.write_enum_if-requires-clause-usual
write_enum_if-requires-clause-usual c = λ e. c.intent_number-number.ensures.usual (c.requires.usual e)

pub returns : goal.returns
returns c =
    intent_spelled c.args.present c.args.intent c.intent_number-number.result c.args.bits.now c.write_enum_if.new.bits c.intent_number-number.ensures.meant c.requires.usual c.in_ok-write_enum_if.ensures
