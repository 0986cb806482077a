-- What is left of the number are the samples of the other channels, if the picture has as many.
use Rattle.std.proofs.Common.{◌≡◌, ◌+◌, drop}
use Rattle.std.specs.List.{sum_by}
use Rattle.jxl_image_header.specs.Images.{image_of}
use Rattle.jxl_c_picture.specs.Channels.{cell_count, entries_of, sample_count}
use Rattle.jxl_c_picture.proofs.channels.has_samples.Given as goal

abbrev pub invariant-loop-k : goal.invariant-loop-k
invariant-loop-k l = sample_count (image_of l.header) + l.left ≡ l.count + sum_by cell_count (drop l.k (entries_of (image_of l.header)))
