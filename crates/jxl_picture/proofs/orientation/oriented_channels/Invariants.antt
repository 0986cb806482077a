use Rattle.std.proofs.Common.{◌≡◌, ◌++◌, length}
use Rattle.std.specs.List.{AllZip}
use Rattle.jxl_picture.specs.Orientations.{IsOriented}
use Rattle.jxl_picture.proofs.orientation.oriented_channels.Given as goal

abbrev pub invariant-loop-channel : goal.invariant-loop-channel
invariant-loop-channel l = record {
  left : l.fn.channels.items ≡ l.yielded ++ l.channel-iterator.rest.items;
  count : l.channel-iterator.rest.len ≡ length l.channel-iterator.rest.items;
  oriented : AllZip (IsOriented l.orientation) l.yielded l.shown.items;
}
