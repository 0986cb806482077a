use Rattle.std.proofs.Common.{◌≡◌, ◌∙◌, ◌<◌, ℕ, ℤ, length, arith, ap, sym}
use Rattle.jxlm_base.specs.Grid.{Grid}
use Rattle.jxl_image_header.specs.Images.{image_of}
use Rattle.jxl_frame_header.specs.Frames.{frame_of}
use Rattle.jxl_frame_header.specs.declared.blending.BlendingInfo.{BlendingInfo}
use Rattle.jxl_picture.specs.Limits.{channel_count}
use Rattle.jxl_picture.specs.Pictures.{colour_count}
use Rattle.jxl_patches.specs.SavedParts.{slots_of}
use Rattle.jxl_patches.proofs.Holding.{are_saved}
use Rattle.jxl_layers.specs.Compositions.{info_of}
use Rattle.jxl_layers.proofs.Layers.{channels_within, is_large, samples_sides, samples_some}
use Rattle.jxl_layers.proofs.compose.Composition.samples_below.Goals as goal

pub channel-held-requires-clause-slot : goal.channel-held-requires-clause-slot
channel-held-requires-clause-slot c =
    let image = image_of c.args.self.image.now in
    (are_saved (channel_count image) (slots_of c.args.self.slots.now) c.requires.ready.held).slot c.info_of-info.result.source c.in-Some._size (sym c.in-Some.ensures)

pub channel-held-requires-clause-channel : goal.channel-held-requires-clause-channel
channel-held-requires-clause-channel c =
    let image = image_of c.args.self.image.now in
    let most = (are_saved (channel_count image) (slots_of c.args.self.slots.now) c.requires.ready.held).count c.info_of-info.result.source c.in-Some._size (sym c.in-Some.ensures) in
    let count = c.requires.ready.own.count in
    let within = c.requires.channel in
    omega (arith, most, count, within)

pub returns-in_ok-samples-in-Some-clause-width : goal.returns-in_ok-samples-in-Some-clause-width
returns-in_ok-samples-in-Some-clause-width c =
    let image = image_of c.args.self.image.now in
    let h = frame_of c.args.self.header.now in
    let slots = slots_of c.args.self.slots.now in
    let is : c.info_of-info.result ≡ info_of h (colour_count image) c.args.channel = c.info_of-info.ensures ∙ ap (λ (n : ℕ). info_of h n c.args.channel) c.colours-colours.ensures in
    let large = is_large image.size slots (info_of h (colour_count image) c.args.channel) (c.requires.ready.large c.args.channel) in
    let within = channels_within c.args.self.channels.now (channel_count image) c.args.channel c.requires.ready.own.count c.requires.channel in
    let sides = samples_sides (channel_count image) image h slots c.args.channel c.requires.ready.held large within in
    let same = samples_some image h slots c.in-Some._size c.info_of-info.result.source c.args.channel c.in_ok-samples-in-Some.samples (ap (λ (i : BlendingInfo). i.source) is) (sym c.in-Some.ensures) (c.in_ok-samples-in-Some.ensures.same ∙ c.channel-held.ensures) in
    ap (λ (g : Grid ℤ). g.width) same ∙ sides.0

pub returns-in_ok-samples-in-Some-clause-height : goal.returns-in_ok-samples-in-Some-clause-height
returns-in_ok-samples-in-Some-clause-height c =
    let image = image_of c.args.self.image.now in
    let h = frame_of c.args.self.header.now in
    let slots = slots_of c.args.self.slots.now in
    let is : c.info_of-info.result ≡ info_of h (colour_count image) c.args.channel = c.info_of-info.ensures ∙ ap (λ (n : ℕ). info_of h n c.args.channel) c.colours-colours.ensures in
    let large = is_large image.size slots (info_of h (colour_count image) c.args.channel) (c.requires.ready.large c.args.channel) in
    let within = channels_within c.args.self.channels.now (channel_count image) c.args.channel c.requires.ready.own.count c.requires.channel in
    let sides = samples_sides (channel_count image) image h slots c.args.channel c.requires.ready.held large within in
    let same = samples_some image h slots c.in-Some._size c.info_of-info.result.source c.args.channel c.in_ok-samples-in-Some.samples (ap (λ (i : BlendingInfo). i.source) is) (sym c.in-Some.ensures) (c.in_ok-samples-in-Some.ensures.same ∙ c.channel-held.ensures) in
    ap (λ (g : Grid ℤ). g.height) same ∙ sides.1
