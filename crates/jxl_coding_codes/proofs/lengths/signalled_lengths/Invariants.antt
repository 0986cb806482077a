use Rattle.std.proofs.Common.{◌≡◌, ◌-◌}
use Rattle.jxlm_bits.specs.Bits.{bytes_of, position_of}
use Rattle.jxl_coding_codes.specs.Reading.{steps}
use Rattle.jxl_coding_codes.specs.PrefixCodes.{lengths_step, no_lengths}
use Rattle.jxl_coding_codes.specs.PrefixCodes.{code_seen}
use Rattle.jxl_coding_codes.specs.Inner.Seen.{lengths_seen}
use Rattle.jxl_coding_codes.proofs.lengths.signalled_lengths.Given as goal

abbrev pub invariant-loop : goal.invariant-loop
invariant-loop l = record {
  bytes : bytes_of l.bits ≡ bytes_of l.fn.bits;
  read : steps (lengths_step (code_seen l.length_code) l.alphabet) (l.alphabet - l.counter) (lengths_seen l.s) (bytes_of l.fn.bits) (position_of l.bits)
      ≡ steps (lengths_step (code_seen l.length_code) l.alphabet) l.alphabet no_lengths (bytes_of l.fn.bits) (position_of l.fn.bits);
}
