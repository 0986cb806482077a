use Rattle.std.proofs.Common.{◌≡◌, ◌∙◌, ℕ, None, false, get_or, subst, sym, ap}
use Rattle.std.specs.Float.{Float}
use Rattle.jxlm_base.specs.Grid.{Grid}
use Rattle.jxl_image_header.specs.Images.{image_of}
use Rattle.jxl_frame_header.specs.Frames.{frame_of}
use Rattle.jxl_frame_header.specs.declared.blending.BlendingInfo.{BlendingInfo}
use Rattle.jxl_picture.specs.Limits.{channel_count}
use Rattle.jxl_picture.specs.Pictures.{colour_count}
use Rattle.jxl_patches.specs.SavedParts.{slots_of}
use Rattle.jxl_patches.specs.Slots.{sizes_of}
use Rattle.jxl_layers.specs.Compositions.{channel_below, info_of}
use Rattle.jxl_layers.specs.Refusals.{is_other, slot_refusal}
use Rattle.jxl_layers.proofs.Layers.{HasSides, below_sides, channels_within, is_large}
use Rattle.jxl_layers.proofs.compose.Composition.below.Goals as goal

pub returns-clause-is : goal.returns-clause-is
returns-clause-is c =
    let image = image_of c.args.self.image.now in
    let h = frame_of c.args.self.header.now in
    let slots = slots_of c.args.self.slots.now in
    let is : c.info_of-info.result ≡ info_of h (colour_count image) c.args.channel = c.info_of-info.ensures ∙ ap (λ (n : ℕ). info_of h n c.args.channel) c.colours-colours.ensures in
    c.in_ok-values.ensures.is ∙ ap (λ (i : BlendingInfo). channel_below image slots i.source c.args.channel) is

pub returns-clause-sides : goal.returns-clause-sides
returns-clause-sides c =
    let image = image_of c.args.self.image.now in
    let h = frame_of c.args.self.header.now in
    let slots = slots_of c.args.self.slots.now in
    let info = c.info_of-info.result in
    let is : info ≡ info_of h (colour_count image) c.args.channel = c.info_of-info.ensures ∙ ap (λ (n : ℕ). info_of h n c.args.channel) c.colours-colours.ensures in
    let none : slot_refusal image.size slots info ≡ None = subst (λ (i : BlendingInfo). slot_refusal image.size slots i ≡ None) (sym is) (c.requires.ready.large c.args.channel) in
    let large : is_other image.size (get_or (sizes_of slots) info.source None) ≡ false = is_large image.size slots info none in
    let within = channels_within c.args.self.channels.now (channel_count image) c.args.channel c.requires.ready.own.count c.requires.channel in
    let sides : HasSides image.size (channel_below image slots info.source c.args.channel) = below_sides (channel_count image) image slots info.source c.args.channel c.requires.ready.held c.requires.ready.singles large within in
    record {
      width = ap (λ (g : Grid Float). g.width) c.in_ok-values.ensures.is ∙ sides.width;
      height = ap (λ (g : Grid Float). g.height) c.in_ok-values.ensures.is ∙ sides.height;
      full = c.in_ok-values.ensures.full;
    }
