use Rattle.std.proofs.Common.{◌≡◌, ℕ, ℤ, ◌<◌, List, [], length, get_or, refl, subst, ◌∙◌, arith}
use Rattle.std.proofs.lemmas.List.{get_or_default, length-set}
use Rattle.jxlm_base.specs.Grid.{Grid, grid}
use Rattle.jxl_image_header.specs.Images.{image_of}
use Rattle.jxl_patches.specs.Dictionaries.{patches_of}
use Rattle.jxl_patches.specs.Patched.{patching}
use Rattle.jxl_patches.specs.Inner.Rows.{AreCovered, IsChannelMixed, IsChannelPut}
use Rattle.jxl_patches.specs.SavedParts.{frames_in}
use Rattle.jxl_patches.specs.declared.dictionary.Place.{Place}
use Rattle.jxl_patches.proofs.Channels.{channels_more, channels_left, channel_put, ready_channel}
use Rattle.jxl_patches.proofs.dictionary.Dictionary.put_place.Goals as goal

pub covered_parts-requires-clause-columns : goal.covered_parts-requires-clause-columns
covered_parts-requires-clause-columns c = λ k lt. rw c.nth_place.ensures (c.requires.fits.places c.args.n k c.requires.place lt).columns

pub covered_parts-requires-clause-in_rows : goal.covered_parts-requires-clause-in_rows
covered_parts-requires-clause-in_rows c = λ k lt. rw c.nth_place.ensures (c.requires.fits.places c.args.n k c.requires.place lt).rows

pub loop-channel-init : goal.loop-channel-init
loop-channel-init c = record { count = refl; done = λ k h. absurd (omega (arith, h)); left = λ k h. refl }

pub put_channel-requires : goal.put_channel-requires
put_channel-requires c =
    let i = c.loop-channel.invariant in
    let k = c.loop-channel.channel in
    let lt : k < length c.args.channels.now = omega (arith, c.loop-channel-test.true, i.count) in
    let within : k < length c.loop-channel.channels = omega (arith, lt, i.count) in
    let same : get_or c.loop-channel.channels k c.index-channels-channel.result ≡ get_or c.args.channels.now k (grid 0 0 []) =
    get_or_default c.loop-channel.channels k c.index-channels-channel.result (grid 0 0 []) within ∙ i.left k (omega arith) in
    let covered = subst (λ (p : Place). AreCovered p c.args.channels.now c.in_ok-parts.parts.items) c.nth_place.ensures c.in_ok-parts.ensures in
    rw (same, c.deref.ensures.value) (ready_channel (frames_in c.args.slots.now) c.args.colours (patches_of c.args.self.now) c.args.n c.args.channels.now c.in_ok-parts.parts.items k c.requires.place lt c.requires.fits covered)

pub loop-channel-preserved : goal.loop-channel-preserved
loop-channel-preserved c =
    let i = c.loop-channel.invariant in
    let k = c.loop-channel.channel in
    let old = c.args.channels.now in
    let now = c.loop-channel.channels in
    let new = c.put_channel.new.grid in
    let none = grid {S = ℤ} 0 0 [] in
    let image = image_of c.args.image.now in
    let frames = frames_in c.args.slots.now in
    let patches = patches_of c.args.self.now in
    let parts = c.in_ok-parts.parts.items in
    let lt : k < length old = omega (arith, c.loop-channel-test.true, i.count) in
    let within : k < length now = omega (arith, lt, i.count) in
    let same : get_or now k c.index-channels-channel.result ≡ get_or old k none = get_or_default now k c.index-channels-channel.result none within ∙ i.left k (omega arith) in
    let covered = subst (λ (p : Place). AreCovered p old parts) c.nth_place.ensures c.in_ok-parts.ensures in
    let put : IsChannelMixed image frames c.args.colours patches c.args.n c.deref.result.now k (get_or old k none) new =
    subst (λ (g : Grid ℤ). IsChannelMixed image frames c.args.colours patches c.args.n c.deref.result.now k g new) same c.put_channel.ensures in
    let mixed : IsChannelMixed image frames c.args.colours patches c.args.n parts k (get_or old k none) new =
    subst (λ (gs : List (Grid ℤ)). IsChannelMixed image frames c.args.colours patches c.args.n gs k (get_or old k none) new) c.deref.ensures.value put in
    let here : IsChannelPut (patching image frames c.args.colours patches old) c.args.n k old (get_or old k none) new =
    channel_put image frames c.args.colours patches c.args.n old parts covered k lt new mixed in
    record {
      count = length-set now k new ∙ i.count;
      done = channels_more old now k new none (λ (n : ℕ) (g h : Grid ℤ). IsChannelPut (patching image frames c.args.colours patches old) c.args.n n old g h) within i.done here;
      left = channels_left old now k new none i.left;
    }

pub returns : goal.returns
returns c =
    let i = c.loop-channel.invariant in
    record { count = i.count; each = λ k h. i.done k (omega (arith, h, i.count, c.loop-channel-test.false)) }
