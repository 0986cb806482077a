use Rattle.std.proofs.Common.{List, [], ◌∷◌, map, refl}
use Rattle.jxlm_transform.specs.Lists.{list_of}
use Rattle.jxlm_transform.specs.ChannelSteps.{Step, SqueezeStep}
use Rattle.jxlm_transform.specs.declared.transform.SqueezeParams.{SqueezeParams}
use Rattle.jxlm_chain.proofs.PlacedSteps.{goes_next, goes_nowhere, rest_next}
use Rattle.jxlm_chain.proofs.placed.PlacedChannels.add_each.Goals as goal

abbrev steps : List SqueezeParams → List Step
steps ts = map SqueezeStep ts

abbrev one : SqueezeParams → List Step
one t = SqueezeStep t ∷ []

pub loop-step-init : goal.loop-step-init
loop-step-init c = record { goes = goes_nowhere c.args.self.now c.requires; rest = refl }

pub add_halves-requires : goal.add_halves-requires
add_halves-requires c = c.loop-step.invariant.goes.placed

pub loop-step-preserved : goal.loop-step-preserved
loop-step-preserved c =
    let xs = c.args.steps.now in
    let i = c.loop-step.step-index in
    record {
      goes = goes_next steps one refl (λ x ys. refl) xs i _ c.args.self.now c.loop-step.self c.add_halves.new.self c.loop-step-test.true c.loop-step.invariant.goes c.in_ok-add_halves.ensures.goes;
      rest = rest_next xs i _ (list_of c.loop-step.self.channels) (list_of c.add_halves.new.self.channels) _ c.loop-step-test.true c.in_ok-add_halves.ensures.list c.loop-step.invariant.rest;
    }
