use Rattle.std.proofs.Common.{refl, ◌∙◌}
use Rattle.jxlm_fault.proofs.FaultReads.{same_read}
use Rattle.jxlm_fault.proofs.fault.FaultDecoderDecoder.read_varint_clustered.Goals as goal

pub returns-in-Ok-clause-gives : goal.returns-in-Ok-clause-gives
returns-in-Ok-clause-gives c = λ m. (same_read _ _ _ _ m ∙ c.in-Ok.ensures.gives, refl)

pub returns-in-Err-clause-gives : goal.returns-in-Err-clause-gives
returns-in-Err-clause-gives c = λ m. (same_read _ _ _ _ m ∙ c.in-Err.ensures.gives.0, c.in-Err.ensures.gives.1, c.in-Err.ensures.gives.2)
