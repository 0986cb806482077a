use Rattle.jxl_image_header_write.proofs.HeaderSpellings.{animation_spelled}
use Rattle.jxl_image_header_write.proofs.animation.write_animation.Goals as goal

pub returns : goal.returns
returns c =
    animation_spelled c.args.animation c.args.bits.now c.write_u32.new.bits c.write_u32-2.new.bits c.write_u32-3.new.bits c.write_flag.new.bits c.in_ok-write_u32.ensures c.in_ok-write_u32-2.ensures
    c.in_ok-write_u32-3.ensures c.in_ok-write_flag.ensures
