use Rattle.std.proofs.Common.{◌≡◌, take}
use Rattle.jxl_animation.proofs.frames.copies.Given as goal

abbrev pub invariant-loop-channel : goal.invariant-loop-channel
invariant-loop-channel l = l.all.items ≡ take l.channel-index l.channels
