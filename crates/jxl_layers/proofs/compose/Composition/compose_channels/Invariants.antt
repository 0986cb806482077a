use Rattle.std.proofs.Common.{map}
use Rattle.jxl_blending.specs.SingleGrids.{singles_of}
use Rattle.jxl_layers.specs.Inner.Compositions.{AreLayered, frame_in, image_in, slots_in}
use Rattle.jxl_layers.proofs.compose.Composition.compose_channels.Given as goal

abbrev pub invariant-loop-channel : goal.invariant-loop-channel
invariant-loop-channel l = AreLayered (image_in l.self) (frame_in l.self) (slots_in l.self) l.self.channels.now l.channel (map singles_of l.singles.items) l.channels.items
