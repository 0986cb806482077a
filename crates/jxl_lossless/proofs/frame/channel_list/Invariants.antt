use Rattle.std.proofs.Common.{◌≡◌, take}
use Rattle.jxl_lossless.specs.Inner.Given.{of_file}
use Rattle.jxl_lossless.proofs.frame.channel_list.Given as goal

abbrev pub invariant-loop-channel : goal.invariant-loop-channel
invariant-loop-channel l = l.list.items ≡ of_file l.colours (take l.channel-index l.extra) l.size.width l.size.height
