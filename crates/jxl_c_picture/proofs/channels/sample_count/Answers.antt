use Rattle.std.proofs.Common.{arith}
use Rattle.jxl_image_header.specs.Images.{Image, image_of}
use Rattle.jxl_c_picture.specs.Channels.{cell_count, entries_of, shown_as}
use Rattle.jxl_c_picture.proofs.Counts.{entry_count, sum_done, sum_next}
use Rattle.jxl_c_picture.proofs.channels.sample_count.Goals as goal

pub overflow_add-count : goal.overflow_add-count
overflow_add-count c =
    let image : Image = shown_as c.args.size (image_of c.args.header.now) in
    let next = sum_next cell_count (entries_of image) c.loop-k.k c.channel_at-channel.result (omega (arith, entry_count image, c.loop-k-test.true, c.channel_count-channels.ensures)) c.channel_at-channel.ensures in
    omega (arith, next, c.loop-k.invariant, c.cells_in-count.ensures, c.requires.small)

pub loop-k-preserved : goal.loop-k-preserved
loop-k-preserved c =
    let image : Image = shown_as c.args.size (image_of c.args.header.now) in
    let next = sum_next cell_count (entries_of image) c.loop-k.k c.channel_at-channel.result (omega (arith, entry_count image, c.loop-k-test.true, c.channel_count-channels.ensures)) c.channel_at-channel.ensures in
    omega (arith, next, c.loop-k.invariant, c.cells_in-count.ensures)

pub returns : goal.returns
returns c =
    let image : Image = shown_as c.args.size (image_of c.args.header.now) in
    let done = sum_done cell_count (entries_of image) c.loop-k.k (omega (arith, entry_count image, c.loop-k-test.false, c.channel_count-channels.ensures)) in
    omega (arith, done, c.loop-k.invariant)
