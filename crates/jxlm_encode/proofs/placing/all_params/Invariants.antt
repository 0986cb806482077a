use Rattle.std.proofs.Common.{◌≡◌, map, take}
use Rattle.jxlm_encode_write.specs.Headers.{params_of}
use Rattle.jxlm_encode.proofs.placing.all_params.Given as goal

abbrev pub invariant-loop-step : goal.invariant-loop-step
invariant-loop-step l = l.params.items ≡ map params_of (take l.step-index l.steps)
