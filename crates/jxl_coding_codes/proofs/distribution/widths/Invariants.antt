use Rattle.std.proofs.Common.{◌≡◌, ◌-◌}
use Rattle.jxlm_bits.specs.Bits.{bytes_of, position_of}
use Rattle.jxl_coding_codes.specs.Reading.{steps}
use Rattle.jxl_coding_codes.specs.Distributions.{widths_step, no_widths}
use Rattle.jxl_coding_codes.specs.Inner.Seen.{widths_seen}
use Rattle.jxl_coding_codes.proofs.distribution.widths.Given as goal

abbrev pub invariant-loop : goal.invariant-loop
invariant-loop l = record {
  bytes : bytes_of l.bits ≡ bytes_of l.fn.bits;
  read : steps (widths_step l.all) (l.all - l.counter) (widths_seen l.s) (bytes_of l.fn.bits) (position_of l.bits)
      ≡ steps (widths_step l.all) l.all no_widths (bytes_of l.fn.bits) (position_of l.fn.bits);
}
