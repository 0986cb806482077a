use Rattle.std.proofs.Common.{◌≡◌, map, take, drop}
use Rattle.jxlm_transform.specs.Lists.{list_of}
use Rattle.jxlm_transform.specs.ChannelSteps.{SqueezeStep, list_after_all}
use Rattle.jxlm_chain.specs.Placed.{GoesOn}
use Rattle.jxlm_chain.proofs.placed.PlacedChannels.add_each.Given as goal

abbrev pub invariant-loop-step : goal.invariant-loop-step
invariant-loop-step l = record {
  goes : GoesOn (map SqueezeStep (take l.step-index l.steps)) l.initial.self l.self;
  rest : list_after_all (map SqueezeStep (drop l.step-index l.steps)) (list_of l.self.channels) ≡ list_after_all (map SqueezeStep l.steps) (list_of l.initial.self.channels);
}
