use Rattle.std.proofs.Common.{◌≡◌, ◌∙◌, ℕ, ap, sym}
use Rattle.jxl_image_header.specs.Images.{image_of}
use Rattle.jxl_frame_header.specs.Frames.{frame_of}
use Rattle.jxl_blending.specs.Choices.{sample_scale}
use Rattle.jxl_blending.specs.SingleGrids.{singles_of}
use Rattle.jxl_patches.specs.SavedParts.{slots_of}
use Rattle.jxl_layers.proofs.Layers.{shown_over}
use Rattle.jxl_layers.proofs.compose.Composition.compose_channel.Goals as goal

pub show_under-requires-clause-sides : goal.show_under-requires-clause-sides
show_under-requires-clause-sides c =
    let sides = c.in_ok-values.ensures.sides in
    record { width = c.in_ok-samples.ensures.width ∙ sym sides.width; height = c.in_ok-samples.ensures.height ∙ sym sides.height }

pub returns-clause-shown : goal.returns-clause-shown
returns-clause-shown c =
    let image = image_of c.args.self.image.now in
    let h = frame_of c.args.self.header.now in
    let slots = slots_of c.args.self.slots.now in
    let scale = c.sample_scale-scale.ensures ∙ ap (λ (n : ℕ). sample_scale image n c.args.channel) c.colours-colours.ensures in
    shown_over image h slots c.args.self.channels.now c.args.channel c.sample_scale-scale.result c.corner_of-corner.result.x c.corner_of-corner.result.y c.width.result c.height.result c.own-own.result.now
    (singles_of c.in_ok-values.values) c.in_ok-samples.samples c.show_under.new.picture scale c.corner_of-corner.ensures.x c.corner_of-corner.ensures.y c.own-own.ensures c.width.ensures.value c.height.ensures.value
    c.in_ok-samples.ensures.is c.show_under.ensures

pub returns-clause-width : goal.returns-clause-width
returns-clause-width c = c.show_under.ensures.new_width ∙ c.in_ok-samples.ensures.width

pub returns-clause-height : goal.returns-clause-height
returns-clause-height c = c.show_under.ensures.new_height ∙ c.in_ok-samples.ensures.height
