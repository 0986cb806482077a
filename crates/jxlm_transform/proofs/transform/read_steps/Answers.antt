use Rattle.std.proofs.Common.{◌≡◌, ◌++◌, ◌∷◌, [], refl, rules, Some}
use Rattle.std.proofs.lemmas.List.Elements.{All-push}
use Rattle.std.proofs.lemmas.Result.{err_from_is_err_and}
use Rattle.jxlm_bits.specs.Bits.{bytes_of, position_of}
use Rattle.jxlm_bits.specs.ErrorKind.{bitstream_kind}
use Rattle.jxlm_transform.proofs.Failures.{unless_no_memory}
use Rattle.jxlm_bits.proofs.RepeatedLoop.{goes_on, stops}
use Rattle.jxlm_transform.specs.Transforms.{squeeze_params, IsSqueezeParams}
use Rattle.jxlm_transform.proofs.transform.read_steps.Goals as goal

pub returns-in_err-step-clause-gives : goal.returns-in_err-step-clause-gives
returns-in_err-step-clause-gives c =
    let p = err_from_is_err_and c.from_residual.result c.from_residual.ensures.1 in
    let refused = stops squeeze_params (bytes_of c.args.bits.now) c.loop.steps.items c.args.count c.loop.counter (position_of c.loop.bits)
    (record { error = bitstream_kind c.in_err-step.field-0.0; position = Some (position_of c.parse.new.bits) }) _ c.loop-test.true
    (rw c.loop.invariant.bytes at c.in_err-step.ensures.gives) c.loop.invariant.read in
    rw (p.1, p.2) (unless_no_memory (bitstream_kind c.in_err-step.field-0.0) _ (record { place = Some (position_of c.parse.new.bits); refuses = refused; stands = refl }))

pub loop-preserved : goal.loop-preserved
loop-preserved c =
    let pushed : c.push.new.self.items ≡ c.loop.steps.items ++ c.in_ok-step.step ∷ [] = search rules in
    record {
      bytes = search rules;
      count = search rules;
      each = rw pushed (All-push IsSqueezeParams c.loop.steps.items c.in_ok-step.step c.loop.invariant.each c.in_ok-step.ensures.ranges);
      read = rw pushed (goes_on squeeze_params (bytes_of c.args.bits.now) c.loop.steps.items c.args.count c.loop.counter (position_of c.loop.bits) c.in_ok-step.step (position_of c.parse.new.bits) _
          c.loop-test.true (rw c.loop.invariant.bytes at c.in_ok-step.ensures.gives) c.loop.invariant.read);
    }
