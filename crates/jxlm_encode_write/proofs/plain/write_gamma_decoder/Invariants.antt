use Rattle.std.proofs.Common.{◌≡◌, ◌++◌}
use Rattle.std.specs.Prelude.{replicate}
use Rattle.std.specs.List.{flat_map}
use Rattle.jxlm_bit_writer.specs.Written.{digits}
use Rattle.jxlm_encode_write.proofs.plain.write_gamma_decoder.Given as goal

abbrev pub invariant-loop : goal.invariant-loop
invariant-loop l = l.bits ≡ l.fn.bits ++ digits 4 2 ++ digits 6 0 ++ flat_map (digits 4) (replicate l.counter 0)
