use Rattle.std.proofs.Common.{refl}
use Rattle.std.proofs.lemmas.List.Sums.{AllPass-from_list_all}
use Rattle.jxlm_chain.specs.Inner.Fronts.{is_within, list_with}
use Rattle.jxlm_chain.proofs.Fronts.{front_next, front_nowhere}
use Rattle.jxlm_chain.proofs.PlacedSteps.{rest_next}
use Rattle.jxlm_chain.proofs.placed.PlacedChannels.add_all_to_front.Goals as goal

pub loop-step-init : goal.loop-step-init
loop-step-init c = record { goes = front_nowhere c.args.front.now c.args.self.now c.requires.front; rest = refl }

pub add_to_front-requires-clause-front : goal.add_to_front-requires-clause-front
add_to_front-requires-clause-front c = c.loop-step.invariant.goes.stands

pub add_to_front-requires-clause-within : goal.add_to_front-requires-clause-within
add_to_front-requires-clause-within c =
    rw c.loop-step.invariant.goes.count (AllPass-from_list_all (is_within c.args.front.now.count) c.args.steps.now c.requires.within c.loop-step.step-index _ c.loop-step-test.true)

pub loop-step-preserved : goal.loop-step-preserved
loop-step-preserved c =
    let xs = c.args.steps.now in
    let i = c.loop-step.step-index in
    record {
      goes = front_next xs i _ c.args.front.now c.loop-step.front c.add_to_front.new.front c.args.self.now c.loop-step.self c.add_to_front.new.self c.loop-step-test.true c.loop-step.invariant.goes
          c.in_ok-add_to_front.ensures.goes;
      rest = rest_next xs i _ (list_with c.loop-step.front c.loop-step.self) (list_with c.add_to_front.new.front c.add_to_front.new.self) _ c.loop-step-test.true c.in_ok-add_to_front.ensures.list c.loop-step.invariant.rest;
    }
