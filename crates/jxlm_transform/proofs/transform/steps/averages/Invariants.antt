use Rattle.std.proofs.Common.{◌≡◌, map, take}
use Rattle.jxlm_transform.specs.Channels.{infos, regions}
use Rattle.jxlm_transform.specs.ChannelSteps.{average_channel}
use Rattle.jxlm_transform.specs.SqueezedRegions.{average_region}
use Rattle.jxlm_transform.proofs.transform.steps.averages.Given as goal

abbrev pub invariant-loop-channel : goal.invariant-loop-channel
invariant-loop-channel l = record {
  infos : infos l.halves.items ≡ map (average_channel l.horizontal) (infos (take l.channel-index l.channels));
  regions : regions l.halves.items ≡ map (average_region l.horizontal) (regions (take l.channel-index l.channels));
}
