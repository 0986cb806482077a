use Rattle.std.proofs.Common.{arith}
use Rattle.jxl_image_header_write.proofs.ChannelSpellings.{float_parts, exponent_small, float_depth}
use Rattle.jxl_image_header_write.proofs.channel.write_float_depth.Goals as goal

pub write_u32-requires-clause-spelled : goal.write_u32-requires-clause-spelled
write_u32-requires-clause-spelled c = (float_parts c.args.depth c.requires.float c.requires.spelled).0

pub overflow_sub-depth : goal.overflow_sub-depth
overflow_sub-depth c = let s = exponent_small c.args.depth.bits_per_sample c.args.depth.exp_bits (float_parts c.args.depth c.requires.float c.requires.spelled).1 in omega (arith, s)

pub write_number-requires-clause-fits : goal.write_number-requires-clause-fits
write_number-requires-clause-fits c = let s = exponent_small c.args.depth.bits_per_sample c.args.depth.exp_bits (float_parts c.args.depth c.requires.float c.requires.spelled).1 in omega (arith, s)

pub returns : goal.returns
returns c =
    float_depth c.args.depth c.args.bits.now c.write_flag.new.bits c.write_u32.new.bits c.write_number.new.bits (float_parts c.args.depth c.requires.float c.requires.spelled).1 c.in_ok-write_flag.ensures
    c.in_ok-write_u32.ensures c.in_ok-write_number.ensures
