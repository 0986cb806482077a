-- What was counted, and the samples of the other channels, are all samples.
use Rattle.std.proofs.Common.{◌≡◌, ◌+◌, drop}
use Rattle.std.specs.List.{sum_by}
use Rattle.jxl_image_header.specs.Images.{image_of}
use Rattle.jxl_c_picture.specs.Channels.{cell_count, entries_of, sample_count, shown_as}
use Rattle.jxl_c_picture.proofs.channels.sample_count.Given as goal

abbrev pub invariant-loop-k : goal.invariant-loop-k
invariant-loop-k l = l.count + sum_by cell_count (drop l.k (entries_of (shown_as l.size (image_of l.header)))) ≡ sample_count (shown_as l.size (image_of l.header))
