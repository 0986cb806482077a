use Rattle.std.proofs.Common.{arith}
use Rattle.jxlm_encode_write.proofs.Spelled.{begin_spelled, kind_spelled}
use Rattle.jxl_encode_image.proofs.HeaderSpellings.{colour_spelled}
use Rattle.jxl_encode_image.proofs.header.write_colour.Goals as goal

pub write_u32-requires-clause-spelled : goal.write_u32-requires-clause-spelled
write_u32-requires-clause-spelled c = begin_spelled c.args.colour.begin_c c.requires.begin

pub write_u32-requires-2-clause-spelled : goal.write_u32-requires-2-clause-spelled
write_u32-requires-2-clause-spelled c = let low = c.requires.kind in kind_spelled c.args.colour.rct_type (omega (arith, low))

pub returns : goal.returns
returns c = colour_spelled c.args.colour c.requires.kind c.args.bits.now c.write_number.new.bits c.write_u32.new.bits c.write_u32-2.new.bits c.in_ok-write_number.ensures c.in_ok-write_u32.ensures c.in_ok-write_u32-2.ensures
