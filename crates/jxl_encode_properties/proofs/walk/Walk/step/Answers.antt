use Rattle.std.proofs.Common.{[], arith, subst, sym}
use Rattle.std.proofs.lemmas.Int.{to_z-of_z}
use Rattle.std.specs.Int.{w32}
use Rattle.jxlm_predictor.specs.Standing.{StandsAt, setting}
use Rattle.jxl_encode_properties.specs.Walks.{IsAfter}
use Rattle.jxl_encode_properties.proofs.Steps.{goes_on, is_ready, takes_one}
use Rattle.jxl_encode_properties.proofs.walk.Walk.step.Goals as goal

pub properties-properties-requires-clause-ready : goal.properties-properties-requires-clause-ready
properties-properties-requires-clause-ready c = is_ready _ _ _ c.self.invariant

pub invariant_of-self : goal.invariant_of-self
invariant_of-self c =
    goes_on _ _ c.args.sample (takes_one _ _ _ _ _ _ (omega (arith, c.if-self-eq0.false)) c.properties-properties.ensures.unchanged (to_z-of_z w32 c.args.sample c.ranges.sample) c.record.ensures.stands) c.self.invariant

pub returns-clause-around : goal.returns-clause-around
returns-clause-around c = λ some weights width samples at.
    let old = subst (λ walk. IsAfter walk weights width samples) (sym c.self.view_is) at in
    let ready = subst (λ state. StandsAt state (setting width weights []) samples) (sym c.properties-properties.ensures.unchanged) old.stands in
    record {
      own = λ k below. c.own.ensures (setting width weights []) samples k ready below;
      predicted = c.predictions_of.ensures (setting width weights []) samples ready;
    }

pub returns-clause-takes : goal.returns-clause-takes
returns-clause-takes c = λ some weights width samples at.
    let old = subst (λ walk. IsAfter walk weights width samples) (sym c.self.view_is) at in
    takes_one c.self.inside.state _ _ c.self.inside.left c.args.sample _ (omega (arith, c.if-self-eq0.false)) c.properties-properties.ensures.unchanged (to_z-of_z w32 c.args.sample c.ranges.sample) c.record.ensures.stands weights width samples old
