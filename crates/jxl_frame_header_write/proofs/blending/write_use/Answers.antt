use Rattle.jxl_frame_header_write.proofs.BlendingSpellings.{use_spelled}
use Rattle.jxl_frame_header_write.proofs.blending.write_use.Goals as goal

pub returns : goal.returns
returns c =
    use_spelled c.args.shown c.args.animation c.args.frame_type c.args.replaces c.args.usage c.args.bits.now c.write_field_if.new.bits c.write_number_if.new.bits c.write_flag_if.new.bits
    c.write_number_if-2.new.bits c.write_flag_if-2.new.bits (rw c.is_some.ensures at c.in_ok-write_field_if.ensures) (rw c.has_timecodes.ensures at c.in_ok-write_number_if.ensures)
    (rw c.is_shown.ensures at c.in_ok-write_flag_if.ensures) (rw c.is_lf.ensures at c.in_ok-write_number_if-2.ensures) (rw (c.may_save_before-before.ensures, c.is_lf-2.ensures) at c.in_ok-write_flag_if-2.ensures)
