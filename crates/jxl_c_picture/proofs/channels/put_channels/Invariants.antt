-- The first channels are described, and the others would follow them.
use Rattle.std.proofs.Common.{◌≡◌, ◌+◌, ◌++◌, length, take, drop}
use Rattle.std.specs.List.{sum_by}
use Rattle.jxl_image_header.specs.Images.{image_of}
use Rattle.jxl_picture.specs.Limits.{channel_count}
use Rattle.jxl_c_picture.specs.Channels.{cell_count, channels_of, entries_of, placed, sample_count, shown_as}
use Rattle.jxl_c_picture.proofs.channels.put_channels.Given as goal

abbrev pub invariant-loop-k : goal.invariant-loop-k
invariant-loop-k l = record {
  count : l.first + sum_by cell_count (drop l.k (entries_of (shown_as l.size (image_of l.header)))) ≡ sample_count (shown_as l.size (image_of l.header));
  long : length l.channels ≡ channel_count (image_of l.header);
  described : take l.k l.channels ++ placed l.first (drop l.k (entries_of (shown_as l.size (image_of l.header)))) ≡ channels_of (shown_as l.size (image_of l.header));
}
