use Rattle.std.proofs.Common.{◌≡◌, ◌++◌, length}
use Rattle.std.specs.Prelude.{take, map}
use Rattle.std.specs.List.{flat_map}
use Rattle.jxlm_encode_write.specs.Headers.{steps_count_bits, params_bits, params_of}
use Rattle.jxlm_encode_write.proofs.header.write_steps.Given as goal

abbrev pub invariant-loop-step : goal.invariant-loop-step
invariant-loop-step l = l.bits ≡ l.fn.bits ++ (steps_count_bits (length l.steps) ++ flat_map params_bits (map params_of (take l.step-index l.steps)))
