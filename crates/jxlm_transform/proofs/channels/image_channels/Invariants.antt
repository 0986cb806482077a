use Rattle.std.proofs.Common.{◌≡◌, map, take}
use Rattle.jxlm_transform.specs.Channels.{image_channel}
use Rattle.jxlm_transform.proofs.channels.image_channels.Given as goal

abbrev pub invariant-loop-channel : goal.invariant-loop-channel
invariant-loop-channel l = l.channels.items ≡ map image_channel (take l.channel-index l.params)
