-- The cells of the channels so far stand there, and there is room for exactly those of the others.
use Rattle.std.proofs.Common.{◌≡◌, ◌+◌, ◌++◌, length, take}
use Rattle.jxl_c_picture.specs.Cells.{cells_of_all}
use Rattle.jxl_c.proofs.cells.move_cells.Given as goal

abbrev pub invariant-loop-channel : goal.invariant-loop-channel
invariant-loop-channel l = record {
  count : l.channel-iterator.rest.len ≡ length l.channel-iterator.rest.items;
  room : l.at + length (cells_of_all l.channel-iterator.rest.items) ≡ length l.samples;
  copied : take l.at l.samples ++ cells_of_all l.channel-iterator.rest.items ≡ cells_of_all l.fn.channels.items;
}
