use Rattle.std.proofs.Common.{◌≡◌, ◌-◌, None}
use Rattle.jxlm_bits.specs.Bits.{bytes_of, position_of}
use Rattle.jxlm_bits.proofs.RepeatedLoop.{with_front}
use Rattle.jxl_frame_header.specs.Inner.Checked.{next}
use Rattle.jxl_frame_header.specs.Passes.{in_turn}
use Rattle.jxl_frame_header.proofs.passes.in_turn.Given as goal

abbrev pub invariant-loop : goal.invariant-loop
invariant-loop l = record {
  bytes : bytes_of l.bits ≡ bytes_of l.fn.bits;
  read : with_front l.values.items ((in_turn (l.n - l.counter) (next l.order) l.before).read (bytes_of l.fn.bits) (position_of l.bits))
      ≡ (in_turn l.n (next l.order) None).read (bytes_of l.fn.bits) (position_of l.fn.bits);
}
