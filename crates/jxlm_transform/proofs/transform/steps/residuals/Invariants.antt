use Rattle.std.proofs.Common.{◌≡◌, map, take}
use Rattle.jxlm_transform.specs.Channels.{infos, regions}
use Rattle.jxlm_transform.specs.ChannelSteps.{residual_channel}
use Rattle.jxlm_transform.specs.SqueezedRegions.{residual_region}
use Rattle.jxlm_transform.proofs.transform.steps.residuals.Given as goal

abbrev pub invariant-loop-channel : goal.invariant-loop-channel
invariant-loop-channel l = record {
  infos : infos l.halves.items ≡ map (residual_channel l.horizontal) (infos (take l.channel-index l.channels));
  regions : regions l.halves.items ≡ map (residual_region l.horizontal) (regions (take l.channel-index l.channels));
}
