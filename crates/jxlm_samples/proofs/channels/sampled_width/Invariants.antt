use Rattle.std.proofs.Common.{◌≡◌, drop, max}
use Rattle.jxlm_transform.specs.Channels.{infos}
use Rattle.jxlm_samples.specs.Reading.{sampled_width}
use Rattle.jxlm_samples.proofs.channels.sampled_width.Given as goal

abbrev pub invariant-loop-channel : goal.invariant-loop-channel
invariant-loop-channel l = max l.widest (sampled_width (infos (drop l.channel-index l.channels))) ≡ sampled_width (infos l.channels)
