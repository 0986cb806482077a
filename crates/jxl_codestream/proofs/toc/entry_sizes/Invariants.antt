use Rattle.std.proofs.Common.{◌≡◌, ◌-◌, length}
use Rattle.jxlm_bits.specs.Bits.{bytes_of, position_of}
use Rattle.jxlm_bits.specs.Grammar.{repeated}
use Rattle.jxlm_bits.proofs.RepeatedLoop.{with_front}
use Rattle.jxl_codestream.specs.Inner.Entries.{entry_size}
use Rattle.jxl_codestream.proofs.toc.entry_sizes.Given as goal

abbrev pub invariant-loop : goal.invariant-loop
invariant-loop l = record {
  bytes : bytes_of l.bits ≡ bytes_of l.fn.bits;
  so_many : length l.sizes.items ≡ l.counter;
  read : with_front l.sizes.items ((repeated (l.count - l.counter) entry_size).read (bytes_of l.fn.bits) (position_of l.bits))
      ≡ (repeated l.count entry_size).read (bytes_of l.fn.bits) (position_of l.fn.bits);
}
