use Rattle.std.proofs.Common.{◌<◌, length, refl, rules, arith}
use Rattle.jxl_image_header.specs.Images.{Image, image_of}
use Rattle.jxl_c_picture.specs.Channels.{cell_count, channels_of, entries_of, shown_as}
use Rattle.jxl_c_picture.proofs.Counts.{described_all, described_more, entry_count, sum_next}
use Rattle.jxl_c_picture.proofs.channels.put_channels.Goals as goal

pub overflow_add-first : goal.overflow_add-first
overflow_add-first c =
    let image : Image = shown_as c.args.size (image_of c.args.header.now) in
    let next = sum_next cell_count (entries_of image) c.loop-k.k c.channel_at-channel.result (omega (arith, entry_count image, c.loop-k-test.true, c.loop-k.invariant.long)) c.channel_at-channel.ensures in
    omega (arith, next, c.loop-k.invariant.count, c.cells_in-first.ensures, c.requires.small)

pub loop-k-preserved : goal.loop-k-preserved
loop-k-preserved c =
    let image : Image = shown_as c.args.size (image_of c.args.header.now) in
    let less : c.loop-k.k < length (entries_of image) = omega (arith, entry_count image, c.loop-k-test.true, c.loop-k.invariant.long) in
    let next = sum_next cell_count (entries_of image) c.loop-k.k c.channel_at-channel.result less c.channel_at-channel.ensures in
    record {
      count = omega (arith, next, c.loop-k.invariant.count, c.cells_in-first.ensures);
      long = search rules;
      described = described_more (entries_of image) c.loop-k.channels _ (channels_of image) c.loop-k.k c.loop-k.first _ c.channel_at-channel.result _ less (omega (arith, entry_count image, c.loop-k.invariant.long)) c.channel_at-channel.ensures refl (search rules) refl c.loop-k.invariant.described;
    }

pub returns : goal.returns
returns c =
    let image : Image = shown_as c.args.size (image_of c.args.header.now) in
    described_all (entries_of image) c.loop-k.channels (channels_of image) c.loop-k.k c.loop-k.first (omega (arith, entry_count image, c.loop-k.invariant.long)) (omega (arith, entry_count image, c.loop-k-test.false, c.loop-k.invariant.long)) c.loop-k.invariant.described
