use Rattle.std.proofs.Common.{◌≡◌, ◌-◌, ◌^◌, ◌<◌, drop, min}
use Rattle.std.specs.Option.{option_map}
use Rattle.jxl_netpbm_read.specs.Words.{digits_from}
use Rattle.jxl_netpbm_read.proofs.words.digits.Given as goal

abbrev pub invariant-loop-digit : goal.invariant-loop-digit
invariant-loop-digit l = record {
  small : l.value < 2 ^ 32;
  same : option_map (λ n. min n (2 ^ 32 - 1)) (digits_from 0 l.text) ≡ option_map (λ n. min n (2 ^ 32 - 1)) (digits_from l.value (drop l.digit-index l.text));
}
