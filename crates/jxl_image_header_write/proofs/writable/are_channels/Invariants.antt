use Rattle.std.proofs.Common.{◌≡◌, take, true}
use Rattle.std.specs.List.{list_all}
use Rattle.jxl_image_header_write.specs.Writable.{is_channel}
use Rattle.jxl_image_header_write.proofs.writable.are_channels.Given as goal

abbrev pub invariant-loop-channel : goal.invariant-loop-channel
invariant-loop-channel l = list_all is_channel (take l.channel-index l.channels) ≡ true
