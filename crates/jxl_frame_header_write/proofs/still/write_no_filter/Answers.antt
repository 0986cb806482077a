use Rattle.jxl_frame_header_write.proofs.StillSpellings.{filter_spelled}
use Rattle.jxl_frame_header_write.proofs.still.write_no_filter.Goals as goal

pub returns : goal.returns
returns c =
    filter_spelled c.args.bits.now c.write_bundle_if.new.bits c.write_flag.new.bits c.write_number.new.bits c.write_no_extensions_if.new.bits c.in_ok-write_bundle_if.ensures c.in_ok-write_flag.ensures
    c.in_ok-write_number.ensures c.in_ok-write_no_extensions_if.ensures
