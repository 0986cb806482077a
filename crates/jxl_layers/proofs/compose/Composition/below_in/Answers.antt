use Rattle.std.proofs.Common.{◌≡◌, ◌∙◌, ◌<◌, length, get_or, Some, None, arith, refl, sym, ap}
use Rattle.jxl_image_header.specs.Images.{image_of}
use Rattle.jxl_picture.specs.Limits.{channel_count}
use Rattle.jxl_patches.specs.SavedParts.{slots_of}
use Rattle.jxl_patches.proofs.Holding.{are_saved}
use Rattle.jxl_blending.specs.SingleGrids.{singles_of}
use Rattle.jxl_layers.proofs.Layers.{full_if, single_full}
use Rattle.jxl_layers.proofs.compose.Composition.below_in.Goals as goal

pub channel-samples-requires-clause-slot : goal.channel-samples-requires-clause-slot
channel-samples-requires-clause-slot c =
    let image = image_of c.args.self.image.now in
    (are_saved (channel_count image) (slots_of c.args.self.slots.now) c.requires.ready.held).slot c.args.slot c.in-Some-size._size (sym c.in-Some-size.ensures)

pub channel-samples-requires-clause-channel : goal.channel-samples-requires-clause-channel
channel-samples-requires-clause-channel c =
    let image = image_of c.args.self.image.now in
    let most = (are_saved (channel_count image) (slots_of c.args.self.slots.now) c.requires.ready.held).count c.args.slot c.in-Some-size._size (sym c.in-Some-size.ensures) in
    let count = c.requires.ready.own.count in
    let within = c.requires.channel in
    omega (arith, most, count, within)

pub returns-in-Some-clause-full : goal.returns-in-Some-clause-full
returns-in-Some-clause-full c =
    full_if c.try_clone.result (singles_of c.in-Some.singles.now)
    (single_full (slots_of c.args.self.slots.now) c.args.slot c.args.channel (singles_of c.in-Some.singles.now) c.requires.ready.singles c.in-Some.ensures) c.try_clone.ensures
