use Rattle.jxl_image_header.specs.Channels.{bit_depth}
use Rattle.jxlm_bit_writer.proofs.WriteLaws.{absent}
use Rattle.jxl_image_header_write.proofs.Spellings.{present}
use Rattle.jxl_image_header_write.proofs.ChannelSpellings.{usual_depth_is}
use Rattle.jxl_image_header_write.proofs.channel.write_depth_if.Goals as goal

pub returns-then-not-present : goal.returns-then-not-present
returns-then-not-present c =
    absent c.args.present bit_depth (record { bits_per_sample = 8; exp_bits = 0 }) c.args.depth c.args.bits.now c.if-not-present.true (usual_depth_is c.args.depth (c.requires.usual c.if-not-present.true))

pub returns : goal.returns
returns c =
    present c.args.present bit_depth (record { bits_per_sample = 8; exp_bits = 0 }) c.args.depth c.args.bits.now c.write_depth.new.bits c.if-not-present.false c.in_ok-write_depth.ensures
