use Rattle.std.proofs.Common.{◌≡◌, drop}
use Rattle.jxl_image_header.specs.Images.{channels_refusal}
use Rattle.jxl_image_header.proofs.image.channels_refusal.Given as goal

abbrev pub invariant-loop-channel : goal.invariant-loop-channel
invariant-loop-channel l = channels_refusal (drop l.channel-index l.channels) ≡ channels_refusal l.channels
