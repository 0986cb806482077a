use Rattle.std.proofs.Common.{◌≡◌, ◌-◌}
use Rattle.jxlm_bits.specs.Bits.{bytes_of, position_of}
use Rattle.jxlm_bits.specs.Grammar.{repeated, u32}
use Rattle.jxlm_bits.proofs.RepeatedLoop.{with_front}
use Rattle.jxl_frame_header.proofs.fields.fields.Given as goal

abbrev pub invariant-loop : goal.invariant-loop
invariant-loop l = record {
  bytes : bytes_of l.bits ≡ bytes_of l.fn.bits;
  read : with_front l.values.items ((repeated (l.count - l.counter) (u32 l.d0 l.d1 l.d2 l.d3)).read (bytes_of l.fn.bits) (position_of l.bits))
      ≡ (repeated l.count (u32 l.d0 l.d1 l.d2 l.d3)).read (bytes_of l.fn.bits) (position_of l.fn.bits);
}
