use Rattle.jxlm_encode_write.specs.Headers.{transform_of}
use Rattle.jxlm_encode.proofs.Accepted.{refused_one}
use Rattle.jxlm_encode.proofs.placing.apply_one.Goals as goal

pub returns-clause-err : goal.returns-clause-err
returns-clause-err c =
    refused_one (transform_of c.args.transform.now) c.args.placed.now c.args.k c.new-alone.result.items c.push.new.self.items c.in_ok-info_of.field-0 c.in-Err.error _ c.new-alone.ensures.items c.in_ok-push.ensures.items
    c.in_ok-info_of.ensures c.in-Err.ensures.gives c.unless_memory.ensures
