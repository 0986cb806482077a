use Rattle.jxl_frame_header_write.proofs.StillSpellings.{coding_spelled}
use Rattle.jxl_frame_header_write.proofs.still.write_coding.Goals as goal

pub returns : goal.returns
returns c =
    coding_spelled c.args.xyb c.args.bits.now c.write_number.new.bits c.write_flag.new.bits c.write_number-2.new.bits c.write_flag_if.new.bits c.write_one.new.bits c.in_ok-write_number.ensures
    c.in_ok-write_flag.ensures c.in_ok-write_number-2.ensures c.in_ok-write_flag_if.ensures c.in_ok-write_one.ensures
