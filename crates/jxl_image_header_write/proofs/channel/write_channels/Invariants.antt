use Rattle.std.proofs.Common.{take}
use Rattle.jxlm_bits.specs.Grammar.{repeated}
use Rattle.jxlm_bit_writer.specs.Writes.{Spells}
use Rattle.jxl_image_header.specs.Channels.{extra_channel}
use Rattle.jxl_image_header_write.proofs.channel.write_channels.Given as goal

abbrev pub invariant-loop-channel : goal.invariant-loop-channel
invariant-loop-channel l = Spells l.fn.bits l.bits (repeated l.channel-index extra_channel) (take l.channel-index l.channels)
