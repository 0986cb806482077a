use Rattle.std.proofs.Common.{◌≡◌, ◌∙◌, [], get_or}
use Rattle.std.proofs.lemmas.List.{get_or_default}
use Rattle.jxlm_base.specs.Grid.{grid}
use Rattle.jxl_image_header.specs.Images.{image_of}
use Rattle.jxl_patches.specs.Dictionaries.{patches_of}
use Rattle.jxl_patches.specs.SavedParts.{frames_in}
use Rattle.jxl_patches.proofs.Channels.{mixed_channel}
use Rattle.jxl_patches.proofs.dictionary.Dictionary.put_channel.Goals as goal

pub channel-samples-requires-clause-slot : goal.channel-samples-requires-clause-slot
channel-samples-requires-clause-slot c = rw c.nth_place-place.ensures c.requires.slot

pub channel-samples-requires-clause-channel : goal.channel-samples-requires-clause-channel
channel-samples-requires-clause-channel c = rw c.nth_place-place.ensures (c.requires.held c.args.channel c.requires.channel)

pub channel-samples_alpha-requires-clause-slot : goal.channel-samples_alpha-requires-clause-slot
channel-samples_alpha-requires-clause-slot c = rw c.nth_place-place.ensures c.requires.slot

pub channel-samples_alpha-requires-clause-channel : goal.channel-samples_alpha-requires-clause-channel
channel-samples_alpha-requires-clause-channel c = rw c.nth_place-place.ensures (c.requires.held c.alpha_of-alpha.result c.alpha_of-alpha.ensures.inside)

pub put-requires-clause-samples : goal.put-requires-clause-samples
put-requires-clause-samples c = rw (c.channel-samples.ensures, c.nth_place-place.ensures) (c.requires.fits c.args.channel c.requires.channel)

pub put-requires-clause-source_alpha : goal.put-requires-clause-source_alpha
put-requires-clause-source_alpha c = rw (c.channel-samples_alpha.ensures, c.nth_place-place.ensures) (c.requires.fits c.alpha_of-alpha.result c.alpha_of-alpha.ensures.inside)

pub put-requires-clause-columns : goal.put-requires-clause-columns
put-requires-clause-columns c =
    let alpha = c.alpha_of-alpha.result in
    let same : c.index-parts-alpha.result ≡ get_or c.args.parts.now alpha (grid 0 0 []) = c.index-parts-alpha.is ∙ get_or_default c.args.parts.now alpha c.index-parts-alpha.result (grid 0 0 []) c.alpha_of-alpha.ensures.inside in
    rw (same, c.nth_place-place.ensures) (c.requires.width alpha c.alpha_of-alpha.ensures.inside)

pub put-requires-clause-in_rows : goal.put-requires-clause-in_rows
put-requires-clause-in_rows c =
    let alpha = c.alpha_of-alpha.result in
    let same : c.index-parts-alpha.result ≡ get_or c.args.parts.now alpha (grid 0 0 []) = c.index-parts-alpha.is ∙ get_or_default c.args.parts.now alpha c.index-parts-alpha.result (grid 0 0 []) c.alpha_of-alpha.ensures.inside in
    rw (same, c.nth_place-place.ensures) (c.requires.height alpha c.alpha_of-alpha.ensures.inside)

pub returns : goal.returns
returns c =
    let alpha = c.alpha_of-alpha.result in
    let same : c.index-parts-alpha.result ≡ get_or c.args.parts.now alpha (grid 0 0 []) = c.index-parts-alpha.is ∙ get_or_default c.args.parts.now alpha c.index-parts-alpha.result (grid 0 0 []) c.alpha_of-alpha.ensures.inside in
    mixed_channel (image_of c.args.image.now) (frames_in c.args.slots.now) c.args.colours (patches_of c.args.self.now) c.args.n c.args.parts.now c.args.channel c.args.grid.now c.put.new.grid c.nth_place-place.result
    c.nth_mode-mode.result alpha c.channel-samples.result.now c.channel-samples_alpha.result.now c.index-parts-alpha.result c.nth_place-place.ensures c.nth_mode-mode.ensures c.alpha_of-alpha.ensures.is
    c.channel-samples.ensures c.channel-samples_alpha.ensures same c.put.ensures
