use Rattle.std.proofs.Common.{◌≡◌, ◌-◌, []}
use Rattle.jxlm_bits.specs.Bits.{bytes_of, position_of}
use Rattle.jxl_coding_codes.specs.Reading.{steps}
use Rattle.jxl_coding_codes.specs.Distributions.{counts_step}
use Rattle.jxl_coding_codes.specs.Inner.Seen.{widths_seen}
use Rattle.jxl_coding_codes.proofs.distribution.all_counts.Given as goal

abbrev pub invariant-loop : goal.invariant-loop
invariant-loop l = record {
  bytes : bytes_of l.bits ≡ bytes_of l.fn.bits;
  read : steps (counts_step l.precision (widths_seen l.signalled)) (l.all - l.counter) l.counts.items (bytes_of l.fn.bits) (position_of l.bits)
      ≡ steps (counts_step l.precision (widths_seen l.signalled)) l.all [] (bytes_of l.fn.bits) (position_of l.fn.bits);
}
