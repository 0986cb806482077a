use Rattle.std.proofs.Common.{◌∙◌}
use Rattle.jxl_image_header.specs.Images.{image_of}
use Rattle.jxl_frame_header_write.proofs.StillSpellings.{frame_spelled}
use Rattle.jxl_frame_header_write.proofs.still.write_still_header.Goals as goal

pub returns : goal.returns
returns c =
    frame_spelled (image_of c.args.image.now) c.args.shift
    c.args.bits.now c.write_bundle_if.new.bits c.write_coding.new.bits c.write_ones.new.bits c.write_number.new.bits c.write_one_pass.new.bits c.write_flag.new.bits c.write_replaces.new.bits
    c.write_all_replace.new.bits c.write_flag-2.new.bits c.write_no_name.new.bits c.write_no_filter.new.bits c.write_no_extensions_if.new.bits
    c.requires.still
    c.in_ok-write_bundle_if.ensures c.in_ok-write_coding.ensures (rw (c.len-extra.ensures ∙ c.args.image.now.ec_info.ok.0) at c.in_ok-write_ones.ensures) c.in_ok-write_number.ensures c.in_ok-write_one_pass.ensures
    c.in_ok-write_flag.ensures (rw (c.len-extra.ensures ∙ c.args.image.now.ec_info.ok.0) at c.in_ok-write_replaces.ensures) (rw (c.len-extra.ensures ∙ c.args.image.now.ec_info.ok.0) at c.in_ok-write_all_replace.ensures) c.in_ok-write_flag-2.ensures
    c.in_ok-write_no_name.ensures c.in_ok-write_no_filter.ensures c.in_ok-write_no_extensions_if.ensures
