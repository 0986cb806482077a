use Rattle.jxl_image_header.specs.Images.{animation}
use Rattle.jxl_image_header_write.proofs.Spellings.{option_told, option_untold}
use Rattle.jxl_image_header_write.proofs.animation.write_animation_if.Goals as goal

pub returns-in_ok-write_animation-in-Some : goal.returns-in_ok-write_animation-in-Some
returns-in_ok-write_animation-in-Some c =
    option_told c.args.present animation c.args.animation c.in-Some.animation c.is_some.result c.args.bits.now c.write_flag_if.new.bits c.write_animation.new.bits c.in-Some.is c.is_some.ensures c.requires.usual
    c.in_ok-write_flag_if.ensures c.in_ok-write_animation-in-Some.ensures

pub returns-in-None : goal.returns-in-None
returns-in-None c =
    option_untold c.args.present animation c.args.animation c.is_some.result c.args.bits.now c.write_flag_if.new.bits c.in-None.is c.is_some.ensures c.in_ok-write_flag_if.ensures
