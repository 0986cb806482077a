use Rattle.jxl_image_header_write.specs.Inner.Channels.{extra_channels}
use Rattle.std.proofs.Common.{length, [], arith}
use Rattle.jxlm_bit_writer.proofs.WriteLaws.{absent}
use Rattle.jxl_image_header_write.proofs.HeaderSpellings.{channels_present, count_spelled}
use Rattle.jxl_image_header_write.proofs.image.write_channels_if.Goals as goal

pub returns-then-not-present : goal.returns-then-not-present
returns-then-not-present c =
    absent c.args.present extra_channels [] c.args.channels.now c.args.bits.now c.if-not-present.true (c.requires.usual c.if-not-present.true)

pub write_u32-requires-clause-spelled : goal.write_u32-requires-clause-spelled
write_u32-requires-clause-spelled c = let few = c.requires.few in count_spelled (length c.args.channels.now) (omega (arith, few))

pub returns : goal.returns
returns c =
    channels_present c.args.present c.args.channels.now c.args.bits.now c.write_u32.new.bits c.write_channels.new.bits c.if-not-present.false c.requires.few c.in_ok-write_u32.ensures c.in_ok-write_channels.ensures
