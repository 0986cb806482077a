use Rattle.jxlm_transform.specs.Transforms.{IsSqueezeParams}
use Rattle.jxlm_encode_write.specs.Headers.{params_of}
use Rattle.jxlm_encode_write.proofs.Spelled.{each_of}
use Rattle.jxlm_encode_write.proofs.header.EncodeTransform.write.Goals as goal

pub write_steps-requires-clause-each : goal.write_steps-requires-clause-each
write_steps-requires-clause-each c = rw c.deref.ensures.value (each_of params_of IsSqueezeParams c.in-Squeeze.steps.items ((rw c.in-Squeeze.is at c.requires).each))
