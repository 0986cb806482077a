-- So many channels of colours were written.
use Rattle.std.proofs.Common.{◌≡◌, ◌+◌, ◌*◌, ◌++◌, take}
use Rattle.jxl_interleave.specs.Pixels.{number_len}
use Rattle.jxl_interleave.specs.Inner.Layers.{samples_in}
use Rattle.jxl_interleave.proofs.pixels.put_colours.Given as goal

abbrev pub invariant-loop-channel : goal.invariant-loop-channel
invariant-loop-channel l = record {
  place : l.end ≡ l.at + l.channel-index * number_len l.depth;
  bytes : take l.end l.bytes ≡ take l.at l.initial.bytes ++ samples_in l.depth l.x l.y l.own (take l.channel-index l.layers.colours.now);
}
