use Rattle.std.proofs.Common.{◌≡◌, ◌∙◌, ℕ, ℤ, sym, ap, subst}
use Rattle.std.specs.Float.{Float}
use Rattle.jxlm_base.specs.Grid.{Grid}
use Rattle.jxl_image_header.specs.Images.{image_of}
use Rattle.jxl_frame_header.specs.Frames.{frame_of}
use Rattle.jxl_frame_header.specs.declared.blending.BlendingInfo.{BlendingInfo}
use Rattle.jxl_picture.specs.Pictures.{colour_count}
use Rattle.jxl_blending.specs.SingleGrids.{singles_of}
use Rattle.jxl_patches.specs.SavedParts.{slots_of}
use Rattle.jxl_layers.specs.Compositions.{alpha_of, info_of}
use Rattle.jxl_layers.proofs.Layers.{layered, layered_sides}
use Rattle.jxl_layers.proofs.compose.Composition.compose_values.Goals as goal

pub blend_grid-requires-clause-front : goal.blend_grid-requires-clause-front
blend_grid-requires-clause-front c =
    let own = c.requires.ready.own in record {
      width = ap (λ (g : Grid ℤ). g.width) c.own-samples_alpha.ensures ∙ own.sides.width c.alpha_of-alpha.result c.alpha_of-alpha.ensures.inside ∙ sym (ap (λ (g : Grid ℤ). g.width) c.own-samples.ensures ∙ own.sides.width c.args.channel c.requires.channel);
      height = ap (λ (g : Grid ℤ). g.height) c.own-samples_alpha.ensures ∙ own.sides.height c.alpha_of-alpha.result c.alpha_of-alpha.ensures.inside ∙ sym (ap (λ (g : Grid ℤ). g.height) c.own-samples.ensures ∙ own.sides.height c.args.channel c.requires.channel);
    }

pub blend_grid-requires-clause-back : goal.blend_grid-requires-clause-back
blend_grid-requires-clause-back c =
    let above = c.in_ok-below_alpha.ensures.sides in
    let below = c.in_ok-picture.ensures.sides in
    record { width = above.width ∙ sym below.width; height = above.height ∙ sym below.height }

pub returns-clause-is : goal.returns-clause-is
returns-clause-is c =
    let image = image_of c.args.self.image.now in
    let h = frame_of c.args.self.header.now in
    let slots = slots_of c.args.self.slots.now in
    let is : c.info_of-info.result ≡ info_of h (colour_count image) c.args.channel = c.info_of-info.ensures ∙ ap (λ (n : ℕ). info_of h n c.args.channel) c.colours-colours.ensures in
    let alpha = c.alpha_of-alpha.ensures.is ∙ ap (λ (i : BlendingInfo). alpha_of image i c.args.channel) is in
    layered image h slots c.args.self.channels.now c.args.channel c.alpha_of-alpha.result c.blending-blending.result c.corner_of-corner.result.x c.corner_of-corner.result.y c.own-samples.result.now c.own-samples_alpha.result.now
    (singles_of c.in_ok-below_alpha.below_alpha) (singles_of c.in_ok-picture.picture) (singles_of c.blend_grid.new.picture) alpha c.blending-blending.ensures c.corner_of-corner.ensures.x c.corner_of-corner.ensures.y c.own-samples.ensures
    c.own-samples_alpha.ensures c.in_ok-below_alpha.ensures.is c.in_ok-picture.ensures.is c.blend_grid.ensures

pub returns-clause-sides : goal.returns-clause-sides
returns-clause-sides c =
    let image = image_of c.args.self.image.now in
    layered_sides image (frame_of c.args.self.header.now) (slots_of c.args.self.slots.now) image.size c.blending-blending.result c.corner_of-corner.result.x c.corner_of-corner.result.y c.own-samples.result.now c.own-samples_alpha.result.now
    (singles_of c.in_ok-below_alpha.below_alpha) (singles_of c.in_ok-picture.picture) (singles_of c.blend_grid.new.picture) c.in_ok-picture.ensures.sides c.blend_grid.ensures
