use Rattle.std.proofs.Common.{◌≡◌, false, true, map, subst, rules}
use Rattle.jxl_image_header.specs.Images.{image_of}
use Rattle.jxl_frame_header.specs.Frames.{frame_of, frame_size}
use Rattle.jxl_blending.specs.SingleGrids.{singles_of}
use Rattle.jxl_patches.specs.SavedParts.{slots_of}
use Rattle.jxl_layers.specs.Refusals.{is_taken}
use Rattle.jxl_lossless.proofs.Channels.{one_size}
use Rattle.jxl_lossless.proofs.Holding.{hold_frames}
use Rattle.jxl_layers.proofs.Layers.{unrefused}
use Rattle.jxl_image_header.specs.declared.size.Size.{Size}
use Rattle.jxl_layers.specs.Compositions.{AreSingles}
use Rattle.jxl_animation.proofs.Pictures.{composed, composed_sides, composed_size, taken, taken_sides}
use Rattle.jxl_animation.proofs.frames.FrameDecoder.picture.Goals as goal

pub returns-then-is_taken-clause-made : goal.returns-then-is_taken-clause-made
returns-then-is_taken-clause-made c =
    let yes : is_taken (frame_of c.args.header.now) ≡ true = search rules in
    taken (image_of c.args.self.now.source.image) (frame_of c.args.header.now) (slots_of c.args.self.now.slots) c.args.channels.items yes

pub returns-then-is_taken-clause-sides : goal.returns-then-is_taken-clause-sides
returns-then-is_taken-clause-sides c =
    let yes : is_taken (frame_of c.args.header.now) ≡ true = search rules in
    taken_sides (image_of c.args.self.now.source.image) (frame_of c.args.header.now) c.args.channels.items yes c.requires.sides

pub compose-requires : goal.compose-requires
compose-requires c =
    let image = image_of c.args.self.now.source.image in
    let h = frame_of c.args.header.now in
    let slots = slots_of c.args.self.now.slots in
    let isnt : is_taken h ≡ false = search rules in
    let none = (unrefused image h slots isnt c.requires.composable).0 in
    record {
      many = c.requires.ready.source.many;
      own = rw c.deref.ensures.value (one_size image (frame_size image.size h) c.args.channels.items none c.requires.sides);
      held = hold_frames image slots none c.requires.ready.state.held;
      singles_held = c.requires.ready.state.singles;
      layered = isnt;
      composable = c.requires.composable;
    }

pub returns-clause-made : goal.returns-clause-made
returns-clause-made c =
    let image = image_of c.args.self.now.source.image in
    let h = frame_of c.args.header.now in
    let slots = slots_of c.args.self.now.slots in
    let isnt : is_taken h ≡ false = search rules in
    composed image h slots c.args.channels.items c.deref.result.now (map singles_of c.in_ok-composite.composite.singles.items) c.in_ok-composite.composite.channels.items isnt c.deref.ensures.value c.in_ok-composite.ensures.made

pub returns-clause-sides : goal.returns-clause-sides
returns-clause-sides c =
    let image = image_of c.args.self.now.source.image in
    let h = frame_of c.args.header.now in
    let slots = slots_of c.args.self.now.slots in
    let isnt : is_taken h ≡ false = search rules in
    composed_sides image h c.in_ok-composite.composite.channels.items (unrefused image h slots isnt c.requires.composable).0 isnt c.in_ok-composite.ensures.sides

pub returns-clause-singles : goal.returns-clause-singles
returns-clause-singles c =
    let image = image_of c.args.self.now.source.image in
    let h = frame_of c.args.header.now in
    let isnt : is_taken h ≡ false = search rules in
    subst (λ (z : Size). AreSingles z (map singles_of c.in_ok-composite.composite.singles.items)) (composed_size image.size h isnt) c.in_ok-composite.ensures.singles
