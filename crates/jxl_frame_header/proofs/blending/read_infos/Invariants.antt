use Rattle.std.proofs.Common.{◌≡◌, ◌-◌, true}
use Rattle.jxlm_bits.specs.Bits.{bytes_of, position_of}
use Rattle.jxlm_bits.specs.Grammar.{repeated}
use Rattle.jxlm_bits.proofs.RepeatedLoop.{with_front}
use Rattle.jxl_frame_header.specs.Blendings.{blending_info}
use Rattle.jxl_frame_header.proofs.blending.read_infos.Given as goal

abbrev pub invariant-loop : goal.invariant-loop
invariant-loop l = record {
  bytes : bytes_of l.bits ≡ bytes_of l.fn.bits;
  read : with_front l.infos.items ((repeated (l.count - l.counter) (blending_info true l.extra l.partial)).read (bytes_of l.fn.bits) (position_of l.bits))
      ≡ (repeated l.count (blending_info true l.extra l.partial)).read (bytes_of l.fn.bits) (position_of l.fn.bits);
}
