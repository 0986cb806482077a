use Rattle.jxl_image_header_write.proofs.SizeSpellings.{width_fits, size_spelled}
use Rattle.std.specs.Prelude.{◌==◌, ◌||◌, ◌%◌, not}
use Rattle.jxl_image_header_write.proofs.size.write_size.Goals as goal

pub write_width-requires-clause-alone : goal.write_width-requires-clause-alone
write_width-requires-clause-alone c = λ e. width_fits c.args.preview c.is_short-short.result c.args.size c.ratio_of-ratio.result (not c.args.preview || (c.args.size.width % 8 == 0)) c.is_short-short.ensures c.ratio_of-ratio.ensures.exists c.requires e

pub returns : goal.returns
returns c =
    size_spelled c.args.preview c.is_short-short.result c.ratio_of-ratio.result c.args.size c.args.bits.now c.write_flag.new.bits c.write_side.new.bits c.write_number.new.bits c.write_width.new.bits
    c.in_ok-write_flag.ensures c.in_ok-write_side.ensures c.in_ok-write_number.ensures c.in_ok-write_width.ensures
