use Rattle.std.proofs.Common.{◌≡◌, map}
use Rattle.std.specs.List.{All}
use Rattle.jxlm_transform.specs.Lists.{list_of}
use Rattle.jxlm_transform.specs.ChannelSteps.{coded_list}
use Rattle.jxlm_transform.specs.Kinds.{is_palette, is_squeeze}
use Rattle.jxlm_transform.specs.Steps.{steps_in}
use Rattle.jxlm_transform.specs.Transforms.{HasChannels, transform_of}
use Rattle.jxlm_chain.specs.Placed.{GoesOn}
use Rattle.jxlm_chain.proofs.Preparing.{come_to, done, left}
use Rattle.jxlm_chain.proofs.placed.PlacedChannels.apply.Given as goal

abbrev pub invariant-loop-transform : goal.invariant-loop-transform
invariant-loop-transform l = record {
  goes : GoesOn (steps_in (done l.transform-index l.transform-items)) l.initial.self l.self;
  channels : All HasChannels (left l.transform-index l.transform-items);
  palettes : map is_palette (map transform_of l.transform-items) ≡ map is_palette (map transform_of l.fn.transforms.items);
  squeezes : map is_squeeze (map transform_of l.transform-items) ≡ map is_squeeze (map transform_of l.fn.transforms.items);
  so_far : come_to l.transform-index l.transform-items (list_of l.self.channels) ≡ coded_list (map transform_of l.fn.transforms.items) (list_of l.initial.self.channels);
}
