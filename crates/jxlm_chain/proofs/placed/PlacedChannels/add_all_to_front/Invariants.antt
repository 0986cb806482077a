use Rattle.std.proofs.Common.{◌≡◌, map, take, drop}
use Rattle.jxlm_transform.specs.ChannelSteps.{SqueezeStep, list_after_all}
use Rattle.jxlm_chain.specs.Inner.Fronts.{FrontGoesOn, list_with}
use Rattle.jxlm_chain.proofs.placed.PlacedChannels.add_all_to_front.Given as goal

abbrev pub invariant-loop-step : goal.invariant-loop-step
invariant-loop-step l = record {
  goes : FrontGoesOn (map SqueezeStep (take l.step-index l.steps)) l.initial.front l.initial.self l.front l.self;
  rest : list_after_all (map SqueezeStep (drop l.step-index l.steps)) (list_with l.front l.self) ≡ list_after_all (map SqueezeStep l.steps) (list_with l.initial.front l.initial.self);
}
