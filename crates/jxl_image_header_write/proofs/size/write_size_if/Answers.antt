use Rattle.jxl_image_header.specs.Sizes.{size}
use Rattle.jxl_image_header_write.proofs.Spellings.{option_told, option_untold}
use Rattle.jxl_image_header_write.proofs.size.write_size_if.Goals as goal

pub returns-in_ok-write_size-in-Some : goal.returns-in_ok-write_size-in-Some
returns-in_ok-write_size-in-Some c =
    option_told c.args.present (size c.args.preview) c.args.size c.in-Some.size c.is_some.result c.args.bits.now c.write_flag_if.new.bits c.write_size.new.bits c.in-Some.is c.is_some.ensures c.requires.usual
    c.in_ok-write_flag_if.ensures c.in_ok-write_size-in-Some.ensures

pub returns-in-None : goal.returns-in-None
returns-in-None c =
    option_untold c.args.present (size c.args.preview) c.args.size c.is_some.result c.args.bits.now c.write_flag_if.new.bits c.in-None.is c.is_some.ensures c.in_ok-write_flag_if.ensures
