use Rattle.std.proofs.Common.{◌≡◌, ◌-◌, ◌<◌, [], All, length}
use Rattle.jxlm_bits.specs.Bits.{bytes_of, position_of}
use Rattle.jxl_coding_codes.specs.Reading.{steps}
use Rattle.jxl_coding_codes.specs.PrefixCodes.{symbols_step}
use Rattle.jxl_coding_codes.proofs.prefix.signalled_symbols.Given as goal

abbrev pub invariant-loop : goal.invariant-loop
invariant-loop l = record {
  bytes : bytes_of l.bits ≡ bytes_of l.fn.bits;
  each : All (λ s. s < l.alphabet) l.symbols.items;
  many : length l.symbols.items ≡ l.counter;
  read : steps (symbols_step l.alphabet) (l.n - l.counter) l.symbols.items (bytes_of l.fn.bits) (position_of l.bits)
      ≡ steps (symbols_step l.alphabet) l.n [] (bytes_of l.fn.bits) (position_of l.fn.bits);
}
