use Rattle.std.proofs.Common.{map}
use Rattle.jxl_image_header.specs.Images.{image_of}
use Rattle.jxl_frame_header.specs.Frames.{frame_of}
use Rattle.jxl_picture.specs.Pictures.{colour_count}
use Rattle.jxl_blending.specs.SingleGrids.{singles_of}
use Rattle.jxl_patches.specs.SavedParts.{slots_of}
use Rattle.jxl_layers.proofs.Layers.{all_composed, all_sides, all_singles, none_refused, unrefused}
use Rattle.jxl_layers.proofs.compose.compose.Goals as goal

pub compose_channels-requires : goal.compose_channels-requires
compose_channels-requires c =
    let image = image_of c.args.image.now in
    let h = frame_of c.args.header.now in
    let slots = slots_of c.args.slots.now in
    let none = (unrefused image h slots c.requires.layered c.requires.composable).1 in
    record {
      ready = record {
        many = c.requires.many;
        own = c.requires.own;
        held = c.requires.held;
        large = λ k. none_refused h image.size slots (colour_count image) k none;
        singles = c.requires.singles_held;
      };
    }

pub returns-clause-made : goal.returns-clause-made
returns-clause-made c =
    all_composed (image_of c.args.image.now) (frame_of c.args.header.now) (slots_of c.args.slots.now) c.args.channels.now (map singles_of c.in_ok-composite.composite.singles.items) c.in_ok-composite.composite.channels.items
    c.in_ok-composite.ensures

pub returns-clause-sides : goal.returns-clause-sides
returns-clause-sides c =
    all_sides (image_of c.args.image.now) (frame_of c.args.header.now) (slots_of c.args.slots.now) c.args.channels.now (map singles_of c.in_ok-composite.composite.singles.items) c.in_ok-composite.composite.channels.items
    c.in_ok-composite.ensures c.requires.own.count

pub returns-clause-singles : goal.returns-clause-singles
returns-clause-singles c =
    all_singles (image_of c.args.image.now) (frame_of c.args.header.now) (slots_of c.args.slots.now) c.args.channels.now (map singles_of c.in_ok-composite.composite.singles.items) c.in_ok-composite.composite.channels.items
    c.in_ok-composite.ensures
