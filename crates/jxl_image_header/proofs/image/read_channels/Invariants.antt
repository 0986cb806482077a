use Rattle.std.proofs.Common.{◌≡◌, ◌-◌}
use Rattle.jxlm_bits.specs.Bits.{bytes_of, position_of}
use Rattle.jxlm_bits.specs.Grammar.{repeated}
use Rattle.jxlm_bits.proofs.RepeatedLoop.{with_front}
use Rattle.jxl_image_header.specs.Channels.{extra_channel}
use Rattle.jxl_image_header.proofs.image.read_channels.Given as goal

abbrev pub invariant-loop : goal.invariant-loop
invariant-loop l = record {
  bytes : bytes_of l.bits ≡ bytes_of l.fn.bits;
  read : with_front l.channels.items ((repeated (l.count - l.counter) extra_channel).read (bytes_of l.fn.bits) (position_of l.bits))
      ≡ (repeated l.count extra_channel).read (bytes_of l.fn.bits) (position_of l.fn.bits);
}
