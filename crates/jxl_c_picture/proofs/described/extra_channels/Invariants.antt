use Rattle.std.proofs.Common.{take}
use Rattle.std.specs.List.{AllZip}
use Rattle.jxl_c_picture.specs.Described.{IsExtraOf}
use Rattle.jxl_c_picture.proofs.described.extra_channels.Given as goal

abbrev pub invariant-loop-channel : goal.invariant-loop-channel
invariant-loop-channel l = AllZip IsExtraOf (take l.channel-index l.extra) l.channels.items
