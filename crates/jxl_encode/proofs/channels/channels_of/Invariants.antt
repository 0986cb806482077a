use Rattle.std.proofs.Common.{◌≡◌, take}
use Rattle.jxl_image_header.specs.Images.{image_of}
use Rattle.jxl_picture.specs.Pictures.{colour_count}
use Rattle.jxl_encode.proofs.Given.{listed}
use Rattle.jxl_encode.proofs.channels.channels_of.Given as goal

abbrev pub invariant-loop-channel : goal.invariant-loop-channel
invariant-loop-channel l = l.list.items ≡ listed (colour_count (image_of l.header)) (take l.channel-index l.channel-items) l.header.size
