use Rattle.std.proofs.Common.{refl}
use Rattle.jxl_frame_header_write.proofs.FilterSpellings.{filter_parts, filter_spelled}
use Rattle.jxl_frame_header_write.proofs.filter.write_filter.Goals as goal

pub returns : goal.returns
returns c =
    filter_spelled c.args.filter _ _ c.args.bits.now c.write_bundle_if.new.bits c.write_flag_if.new.bits c.write_usual_floats_if.new.bits c.write_number_if.new.bits c.write_usual_floats_if-2.new.bits
    c.write_usual_floats_if-3.new.bits c.write_sigma_if.new.bits c.write_no_extensions_if.new.bits (filter_parts c.args.filter c.requires).1 refl c.in_ok-write_bundle_if.ensures c.in_ok-write_flag_if.ensures
    c.in_ok-write_usual_floats_if.ensures c.in_ok-write_number_if.ensures c.in_ok-write_usual_floats_if-2.ensures c.in_ok-write_usual_floats_if-3.ensures c.in_ok-write_sigma_if.ensures
    c.in_ok-write_no_extensions_if.ensures
