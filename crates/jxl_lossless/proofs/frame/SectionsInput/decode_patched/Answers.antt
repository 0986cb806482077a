use Rattle.std.specs.Int.{w32}
use Rattle.jxl_lossless.specs.Frames.{channels_given}
use Rattle.jxl_lossless.specs.Inputs.{size_of}
use Rattle.jxl_lossless.specs.Inner.Inputs.{CodedOf, CodedOfFails}
use Rattle.jxlm_transform.specs.Channels.{AreGridsOf}
use Rattle.std.proofs.Common.{ℕ, ℤ, ◌≡◌, ◌∙◌, List, length, refl, subst, sym, true, rules}
use Rattle.std.specs.Option.{option_map}
use Rattle.std.proofs.lemmas.List.{with_items_is}
use Rattle.std.proofs.lemmas.Result.{err_from_is_err_and}
use Rattle.jxlm_bits.specs.Bits.{bytes_of, position_of}
use Rattle.jxlm_base.specs.Grid.{Grid}
use Rattle.jxl_image_header.specs.Images.{image_of}
use Rattle.jxl_image_header.specs.declared.size.Size.{Size}
use Rattle.jxl_frame_header.specs.Frames.{frame_of, has_shifts}
use Rattle.jxl_patches.specs.Dictionaries.{patches_of}
use Rattle.jxl_patches.specs.SavedParts.{slots_of}
use Rattle.jxl_patches.specs.Slots.{AreOfSize, ArePut, sizes_of}
use Rattle.jxl_picture.specs.Limits.{channel_count}
use Rattle.jxl_picture.specs.Pictures.{AreChannels, colour_count}
use Rattle.jxl_lossless.proofs.Channels.{are_channels, count_channels, none_shifted, of_one_size, one_size}
use Rattle.jxl_lossless.proofs.Holding.{hold_frames}
use Rattle.jxl_lossless.proofs.Frames.{begins, made_fails, patches_fail}
use Rattle.jxl_lossless.proofs.frame.SectionsInput.decode_patched.Goals as goal

pub returns-in-Err-clause-err : goal.returns-in-Err-clause-err
returns-in-Err-clause-err g c =
    let image = image_of c.args.self.input.image.now in
    let slots = slots_of c.args.self.input.slots.now in
    let frame = frame_of c.args.self.input.frame.now.header in
    let count : c.len-extra.result ≡ length c.args.self.input.image.now.ec_info.items = c.len-extra.ensures ∙ c.args.self.input.image.now.ec_info.ok.0 in
    patches_fail g.D.Decoder.meaning image slots frame c.args.self.input.frame.now.trees c.args.self.first.now c.args.self.places c.size-size.result c.len-extra.result (sizes_of slots) (bytes_of c.new-bits.result) (position_of c.new-bits.result)
    (position_of c.read_patches.new.bits) c.size-size.ensures count refl c.new-bits.ensures.bytes c.new-bits.ensures.position c.in-Err.error c.in-Err.ensures.gives

pub returns-in_err-channels-clause-err : goal.returns-in_err-channels-clause-err
returns-in_err-channels-clause-err g c =
    let d = g.D.Decoder.meaning in
    let image = image_of c.args.self.input.image.now in
    let slots = slots_of c.args.self.input.slots.now in
    let frame = frame_of c.args.self.input.frame.now.header in
    let first = c.args.self.first.now in
    let patches = option_map patches_of c.in-Ok.patches in
    let q = position_of c.read_patches.new.bits in
    let count : c.len-extra.result ≡ length c.args.self.input.image.now.ec_info.items = c.len-extra.ensures ∙ c.args.self.input.image.now.ec_info.ok.0 in
    let stands = begins d image slots frame c.args.self.input.frame.now.trees first c.args.self.places c.size-size.result c.len-extra.result (sizes_of slots) (bytes_of c.new-bits.result) (position_of c.new-bits.result) q c.size-size.ensures count
    refl c.new-bits.ensures.bytes c.new-bits.ensures.position patches c.in-Ok.ensures.gives in
    let p = err_from_is_err_and c.from_residual.result c.from_residual.ensures.1 in
    let e = c.in_err-channels.field-0.0 in
    let bytes : bytes_of c.read_patches.new.bits ≡ first = c.in-Ok.ensures.bytes ∙ c.new-bits.ensures.bytes in
    let fails = subst (λ (b : List ℕ). CodedOfFails d w32 c.args.self b q e) bytes c.in_err-channels.ensures.err in
    rw (p.1, p.2) (made_fails d image slots frame c.args.self.input.frame.now.trees first c.args.self.places patches q stands e fails)

pub put_patches-requires-clause-held : goal.put_patches-requires-clause-held
put_patches-requires-clause-held g c =
    let image = image_of c.args.self.input.image.now in
    let slots = slots_of c.args.self.input.slots.now in
    let count : c.len-extra.result ≡ length c.args.self.input.image.now.ec_info.items = c.len-extra.ensures ∙ c.args.self.input.image.now.ec_info.ok.0 in
    let there : c.args.self.input.frame.now.header.coding.flags.patches ≡ true = search rules in
    let none = none_shifted c.args.self.input.frame.now.header.coding.flags.patches (has_shifts image) there c.requires.ready.input.frame.plain in
    rw (c.colours.ensures, count) (hold_frames image slots none c.requires.ready.input.held)

pub put_patches-requires-clause-sides : goal.put_patches-requires-clause-sides
put_patches-requires-clause-sides g c =
    let image = image_of c.args.self.input.image.now in
    let size = c.size-size.result in
    let items = c.in_ok-channels.channels.items in
    let count : c.len-extra.result ≡ length c.args.self.input.image.now.ec_info.items = c.len-extra.ensures ∙ c.args.self.input.image.now.ec_info.ok.0 in
    let there : c.args.self.input.frame.now.header.coding.flags.patches ≡ true = search rules in
    let none = none_shifted c.args.self.input.frame.now.header.coding.flags.patches (has_shifts image) there c.requires.ready.input.frame.plain in
    let are : AreOfSize (channel_count image) size items = one_size image size items none (are_channels image size items (subst (λ (z : Size). AreGridsOf (channels_given image z).channels items) (sym c.size-size.ensures) c.in_ok-channels.ensures.sides)) in
    rw (c.colours.ensures, count, c.deref_mut.ensures.value) are

pub returns-then-not-there-clause-sides : goal.returns-then-not-there-clause-sides
returns-then-not-there-clause-sides g c =
    let image = image_of c.args.self.input.image.now in
    let items = c.in_ok-channels.channels.items in
    are_channels image (size_of c.args.self.input) items c.in_ok-channels.ensures.sides

pub returns-clause-ok : goal.returns-clause-ok
returns-clause-ok g c =
    let d = g.D.Decoder.meaning in
    let image = image_of c.args.self.input.image.now in
    let slots = slots_of c.args.self.input.slots.now in
    let frame = frame_of c.args.self.input.frame.now.header in
    let first = c.args.self.first.now in
    let size = c.size-size.result in
    let items = c.in_ok-channels.channels.items in
    let changed = c.put_patches.new.channels in
    let patches = option_map patches_of c.in-Ok.patches in
    let q = position_of c.read_patches.new.bits in
    let count : c.len-extra.result ≡ length c.args.self.input.image.now.ec_info.items = c.len-extra.ensures ∙ c.args.self.input.image.now.ec_info.ok.0 in
    let stands = begins d image slots frame c.args.self.input.frame.now.trees first c.args.self.places size c.len-extra.result (sizes_of slots) (bytes_of c.new-bits.result) (position_of c.new-bits.result) q c.size-size.ensures count
    refl c.new-bits.ensures.bytes c.new-bits.ensures.position patches c.in-Ok.ensures.gives in
    let bytes : bytes_of c.read_patches.new.bits ≡ first = c.in-Ok.ensures.bytes ∙ c.new-bits.ensures.bytes in
    let coded = subst (λ (b : List ℕ). CodedOf d w32 c.args.self b q items c.args.steps.now c.decode_grids.new.steps) bytes c.in_ok-channels.ensures.ok in
    let put = subst (λ (xs : List (Grid ℤ)). ArePut image slots (colour_count image) patches xs changed) c.deref_mut.ensures.value
    (subst (λ n. ArePut image slots n patches c.deref_mut.result.now changed) c.colours.ensures c.in_ok-put_patches.ensures.put) in
    let there : c.args.self.input.frame.now.header.coding.flags.patches ≡ true = search rules in
    let none = none_shifted c.args.self.input.frame.now.header.coding.flags.patches (has_shifts image) there c.requires.ready.input.frame.plain in
    let before = count_channels image size items (are_channels image size items (subst (λ (z : Size). AreGridsOf (channels_given image z).channels items) (sym c.size-size.ensures) c.in_ok-channels.ensures.sides)) in
    let after : AreOfSize (channel_count image) size changed = rw (sym c.colours.ensures, sym count) c.in_ok-put_patches.ensures.sides in
    let long : length changed ≡ c.in_ok-channels.channels.len = after.count ∙ sym (c.in_ok-channels.channels.ok.0 ∙ before) in
    rw (with_items_is c.in_ok-channels.channels changed long) (record { patches = patches; begin = q; dictionary = stands; own = items; coded = coded; put = put })

pub returns-clause-sides : goal.returns-clause-sides
returns-clause-sides g c =
    let image = image_of c.args.self.input.image.now in
    let size = c.size-size.result in
    let items = c.in_ok-channels.channels.items in
    let changed = c.put_patches.new.channels in
    let count : c.len-extra.result ≡ length c.args.self.input.image.now.ec_info.items = c.len-extra.ensures ∙ c.args.self.input.image.now.ec_info.ok.0 in
    let there : c.args.self.input.frame.now.header.coding.flags.patches ≡ true = search rules in
    let none = none_shifted c.args.self.input.frame.now.header.coding.flags.patches (has_shifts image) there c.requires.ready.input.frame.plain in
    let before = count_channels image size items (are_channels image size items (subst (λ (z : Size). AreGridsOf (channels_given image z).channels items) (sym c.size-size.ensures) c.in_ok-channels.ensures.sides)) in
    let after : AreOfSize (channel_count image) size changed = rw (sym c.colours.ensures, sym count) c.in_ok-put_patches.ensures.sides in
    let long : length changed ≡ c.in_ok-channels.channels.len = after.count ∙ sym (c.in_ok-channels.channels.ok.0 ∙ before) in
    rw (with_items_is c.in_ok-channels.channels changed long) (subst (λ (z : Size). AreChannels image z changed) c.size-size.ensures (of_one_size image size changed none after))
