use Rattle.std.proofs.Common.{◌≡◌, ◌-◌, [], length}
use Rattle.jxlm_bits.specs.Bits.{bytes_of, position_of}
use Rattle.jxlm_bits.specs.Turns.{chain}
use Rattle.jxl_codestream.specs.Orders.{one_more}
use Rattle.jxl_codestream.specs.Inner.Counts.{AreDigits}
use Rattle.jxl_codestream.proofs.order.digits.Given as goal

abbrev pub invariant-loop : goal.invariant-loop
invariant-loop g l = record {
  same : bytes_of l.bits ≡ bytes_of l.fn.bits;
  clusters : length (g.D.Decoder.meaning.cluster_map l.decoder) ≡ 8;
  valid : AreDigits l.code.items l.count;
  read : (chain (one_more g.D.Decoder.meaning l.count) (l.told - l.counter) l.code.items l.decoder).read (bytes_of l.fn.bits) (position_of l.bits)
      ≡ (chain (one_more g.D.Decoder.meaning l.count) l.told [] l.fn.decoder).read (bytes_of l.fn.bits) (position_of l.fn.bits);
}
