use Rattle.std.proofs.Common.{ℕ, ◌<◌, ◌≤◌, length, take, drop, ap, ◌∙◌, arith}
use Rattle.jxl_image_header.specs.Images.{Image, image_of}
use Rattle.jxl_c_picture.specs.Channels.{entries_of}
use Rattle.jxl_c_picture.proofs.Counts.{entry_count}
use Rattle.jxl_c_picture.proofs.Made.{all_made, one_more_made}
use Rattle.jxl_c_picture.proofs.grids.grids_of.Goals as goal

pub loop-k-preserved : goal.loop-k-preserved
loop-k-preserved c =
    let image : Image = image_of c.args.header.now in
    let left = c.loop-k.left.now in
    let less : c.loop-k.k < length (entries_of image) = omega (arith, entry_count image, c.loop-k-test.true, c.channel_count-k-end.ensures) in
    one_more_made image c.args.samples.now c.loop-k.k c.loop-k.grids.items left c.loop-k.invariant c.channel_at-channel.result less c.channel_at-channel.ensures c.split_at.result.0.now c.split_at.result.1.now _ c.push.new.self.items
    (c.split_at.ensures.front ∙ ap (λ (n : ℕ). take n left) c.cells_in.ensures) (c.split_at.ensures.back ∙ ap (λ (n : ℕ). drop n left) c.cells_in.ensures) c.in_ok-grid_of.ensures c.in_ok-push.ensures.items

pub returns-clause-whole : goal.returns-clause-whole
returns-clause-whole c =
    let image : Image = image_of c.args.header.now in
    let le : length (entries_of image) ≤ c.loop-k.k = omega (arith, entry_count image, c.loop-k-test.false, c.channel_count-k-end.ensures) in
    all_made image c.args.samples.now c.loop-k.k c.loop-k.grids.items c.loop-k.left.now c.loop-k.invariant le
