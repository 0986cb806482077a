use Rattle.jxl_image_header_write.proofs.ColourSpellings.{colour_parts, colour_spelled, white_untold, mixed_untold, curve_untold, intent_untold}
use Rattle.jxl_image_header_write.proofs.colour.write_colour_if.Goals as goal

pub write_space_if-requires-clause-known : goal.write_space_if-requires-clause-known
write_space_if-requires-clause-known c = (colour_parts c.args.colour c.requires.spelled).known

pub write_white_if-requires-clause-spelled : goal.write_white_if-requires-clause-spelled
write_white_if-requires-clause-spelled c = (colour_parts c.args.colour c.requires.spelled).white

pub write_white_if-requires-clause-usual : goal.write_white_if-requires-clause-usual
write_white_if-requires-clause-usual c = λ e. white_untold c.args.colour c.requires.spelled (rw (c.is_usual_colour-follows.ensures, c.is_xyb-xyb.ensures) at e)

pub write_primaries_if-requires-clause-spelled : goal.write_primaries_if-requires-clause-spelled
write_primaries_if-requires-clause-spelled c = (colour_parts c.args.colour c.requires.spelled).mixed

pub write_primaries_if-requires-clause-usual : goal.write_primaries_if-requires-clause-usual
write_primaries_if-requires-clause-usual c = λ e. mixed_untold c.args.colour c.requires.spelled (rw (c.is_usual_colour-follows.ensures, c.is_xyb-xyb.ensures, c.is_grey-grey.ensures) at e)

pub write_function_if-requires-clause-spelled : goal.write_function_if-requires-clause-spelled
write_function_if-requires-clause-spelled c = (colour_parts c.args.colour c.requires.spelled).curve

pub write_function_if-requires-clause-usual : goal.write_function_if-requires-clause-usual
write_function_if-requires-clause-usual c = λ e. curve_untold c.args.colour c.requires.spelled (rw (c.is_usual_colour-follows.ensures, c.is_xyb-xyb.ensures) at e)

pub write_intent_if-requires : goal.write_intent_if-requires
write_intent_if-requires c = record { usual = λ e. intent_untold c.args.colour c.requires.spelled (rw c.is_usual_colour-follows.ensures at e) }

pub returns : goal.returns
returns c =
    colour_spelled c.args.present _ c.args.colour c.args.bits.now c.write_bundle_if.new.bits c.write_flag_if.new.bits c.write_space_if.new.bits c.write_white_if.new.bits c.write_primaries_if.new.bits
    c.write_function_if.new.bits c.write_intent_if.new.bits c.in_ok-write_bundle_if.ensures c.in_ok-write_flag_if.ensures c.in_ok-write_space_if.ensures (rw c.is_xyb-xyb.ensures at c.in_ok-write_white_if.ensures)
    (rw (c.is_xyb-xyb.ensures, c.is_grey-grey.ensures) at c.in_ok-write_primaries_if.ensures) (rw c.is_xyb-xyb.ensures at c.in_ok-write_function_if.ensures) c.in_ok-write_intent_if.ensures
