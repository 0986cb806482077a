use Rattle.std.proofs.Common.{sym, ap, ◌∙◌, ◌-◌, arith}
use Rattle.std.proofs.lemmas.Bool.{false≢true}
use Rattle.jxl_image_header.specs.Images.{image_of}
use Rattle.jxl_image_header_write.proofs.HeaderSpellings.{header_parts, header_spelled, untold_parts, no_more}
use Rattle.jxl_image_header_write.proofs.image.write_image_header.Goals as goal

pub write_size-requires : goal.write_size-requires
write_size-requires c = (header_parts (image_of c.args.header.now) c.requires).size

pub write_bundle_if-requires : goal.write_bundle_if-requires
write_bundle_if-requires c = record { usual = λ e. absurd (false≢true (sym e)) }

pub write_flag_if-requires : goal.write_flag_if-requires
write_flag_if-requires c = record { usual = λ e. c.has_more-more.ensures ∙ (untold_parts (image_of c.args.header.now) (sym c.is_told-told.ensures ∙ e)).more }

pub overflow_sub-header : goal.overflow_sub-header
overflow_sub-header c = (header_parts (image_of c.args.header.now) c.requires).least

pub write_number_if-requires-clause-fits : goal.write_number_if-requires-clause-fits
write_number_if-requires-clause-fits c = let m = (header_parts (image_of c.args.header.now) c.requires).most in omega (arith, m)

pub write_number_if-requires-clause-usual : goal.write_number_if-requires-clause-usual
write_number_if-requires-clause-usual c = λ e. ap (λ n. n - 1) (no_more (image_of c.args.header.now) (sym c.has_more-more.ensures ∙ e)).turned

pub write_size_if-requires-clause-spelled : goal.write_size_if-requires-clause-spelled
write_size_if-requires-clause-spelled c = (header_parts (image_of c.args.header.now) c.requires).own

pub write_size_if-requires-clause-usual : goal.write_size_if-requires-clause-usual
write_size_if-requires-clause-usual c = λ e. (no_more (image_of c.args.header.now) (sym c.has_more-more.ensures ∙ e)).own

pub write_size_if-requires-2-clause-spelled : goal.write_size_if-requires-2-clause-spelled
write_size_if-requires-2-clause-spelled c = (header_parts (image_of c.args.header.now) c.requires).preview

pub write_size_if-requires-2-clause-usual : goal.write_size_if-requires-2-clause-usual
write_size_if-requires-2-clause-usual c = λ e. (no_more (image_of c.args.header.now) (sym c.has_more-more.ensures ∙ e)).preview

pub write_animation_if-requires-clause-spelled : goal.write_animation_if-requires-clause-spelled
write_animation_if-requires-clause-spelled c = (header_parts (image_of c.args.header.now) c.requires).animation

pub write_animation_if-requires-clause-usual : goal.write_animation_if-requires-clause-usual
write_animation_if-requires-clause-usual c = λ e. (no_more (image_of c.args.header.now) (sym c.has_more-more.ensures ∙ e)).animation

pub write_depth_if-requires-clause-spelled : goal.write_depth_if-requires-clause-spelled
write_depth_if-requires-clause-spelled c = (header_parts (image_of c.args.header.now) c.requires).depth

pub write_depth_if-requires-clause-usual : goal.write_depth_if-requires-clause-usual
write_depth_if-requires-clause-usual c = λ e. (untold_parts (image_of c.args.header.now) (sym c.is_told-told.ensures ∙ e)).depth

pub write_flag_if-requires-2 : goal.write_flag_if-requires-2
write_flag_if-requires-2 c = record { usual = λ e. (untold_parts (image_of c.args.header.now) (sym c.is_told-told.ensures ∙ e)).narrow }

pub write_channels_if-requires-clause-few : goal.write_channels_if-requires-clause-few
write_channels_if-requires-clause-few c = rw c.deref.ensures.value (header_parts (image_of c.args.header.now) c.requires).few

pub write_channels_if-requires-clause-spelled : goal.write_channels_if-requires-clause-spelled
write_channels_if-requires-clause-spelled c = rw c.deref.ensures.value (header_parts (image_of c.args.header.now) c.requires).channels

pub write_channels_if-requires-clause-usual : goal.write_channels_if-requires-clause-usual
write_channels_if-requires-clause-usual c = λ e. c.deref.ensures.value ∙ (untold_parts (image_of c.args.header.now) (sym c.is_told-told.ensures ∙ e)).channels

pub write_flag_if-requires-3 : goal.write_flag_if-requires-3
write_flag_if-requires-3 c = record { usual = λ e. (untold_parts (image_of c.args.header.now) (sym c.is_told-told.ensures ∙ e)).xyb }

pub write_colour_if-requires-clause-spelled : goal.write_colour_if-requires-clause-spelled
write_colour_if-requires-clause-spelled c = (header_parts (image_of c.args.header.now) c.requires).colour

pub write_colour_if-requires-clause-usual : goal.write_colour_if-requires-clause-usual
write_colour_if-requires-clause-usual c = λ e. (untold_parts (image_of c.args.header.now) (sym c.is_told-told.ensures ∙ e)).colour

pub write_tone_if-requires-clause-spelled : goal.write_tone_if-requires-clause-spelled
write_tone_if-requires-clause-spelled c = (header_parts (image_of c.args.header.now) c.requires).tone

pub write_tone_if-requires-clause-usual : goal.write_tone_if-requires-clause-usual
write_tone_if-requires-clause-usual c = λ e. (no_more (image_of c.args.header.now) (sym c.has_more-more.ensures ∙ e)).tone

pub returns : goal.returns
returns c =
    header_spelled (image_of c.args.header.now) c.is_told-told.result c.has_more-more.result
    c.args.bits.now c.write_number.new.bits c.write_size.new.bits c.write_bundle_if.new.bits c.write_flag_if.new.bits c.write_number_if.new.bits c.write_size_if.new.bits
    c.write_size_if-2.new.bits c.write_animation_if.new.bits c.write_depth_if.new.bits c.write_flag_if-2.new.bits c.write_channels_if.new.bits c.write_flag_if-3.new.bits
    c.write_colour_if.new.bits c.write_tone_if.new.bits c.write_no_extensions_if.new.bits c.write_flag.new.bits
    (header_parts (image_of c.args.header.now) c.requires)
    c.in_ok-write_number.ensures c.in_ok-write_size.ensures c.in_ok-write_bundle_if.ensures c.in_ok-write_flag_if.ensures c.in_ok-write_number_if.ensures c.in_ok-write_size_if.ensures
    c.in_ok-write_size_if-2.ensures c.in_ok-write_animation_if.ensures c.in_ok-write_depth_if.ensures c.in_ok-write_flag_if-2.ensures (rw c.deref.ensures.value at c.in_ok-write_channels_if.ensures)
    c.in_ok-write_flag_if-3.ensures c.in_ok-write_colour_if.ensures c.in_ok-write_tone_if.ensures c.in_ok-write_no_extensions_if.ensures c.in_ok-write_flag.ensures
