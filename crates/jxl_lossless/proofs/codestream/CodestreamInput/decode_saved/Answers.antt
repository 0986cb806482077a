use Rattle.std.proofs.Common.{◌≡◌, ◌∙◌, ◌+◌, ◌<◌, suc, ◌++◌, ◌∷◌, [], List, length, map, take, drop, get_or, ap, sym, subst, arith}
use Rattle.std.proofs.lemmas.List.{map_more}
use Rattle.std.proofs.lemmas.Result.{err_from_is_err_and}
use Rattle.jxl_image_header.specs.Images.{image_of}
use Rattle.jxl_image_header.specs.declared.size.Size.{Size}
use Rattle.jxl_codestream.specs.FrontParts.{frame_at}
use Rattle.jxl_codestream.specs.declared.frame.FrameFront.{FrameFront}
use Rattle.jxl_patches.specs.SavedParts.{slots_of}
use Rattle.jxl_patches.specs.Slots.{Slots, no_slots, saved_in}
use Rattle.jxl_lossless.specs.Saved.{HoldChannels}
use Rattle.jxl_lossless.proofs.Holding.{hold_more}
use Rattle.jxl_lossless.proofs.SavedFrames.{first_bad, saved_more, split_at}
use Rattle.jxl_lossless.proofs.codestream.CodestreamInput.decode_saved.Goals as goal

pub returns-in_err-channels-clause-err : goal.returns-in_err-channels-clause-err
returns-in_err-channels-clause-err g c =
    let d = g.D.Decoder.meaning in
    let image = image_of c.args.self.image.now in
    let xs = c.args.self.frames.now.saved.items in
    let k = c.loop-frame.frame-index in
    let f = c.frame-item.result in
    let shown = frame_at c.args.self.frames.now.shown in
    let p = err_from_is_err_and c.from_residual.result c.from_residual.ensures.1 in
    let within : k < length xs = omega (arith, c.loop-frame-test.true, c.deref-frame-items.ensures.len) in
    let is : get_or xs k f ≡ f = sym (c.frame-item.is ∙ ap (λ (l : List FrameFront). get_or l k f) c.deref-frame-items.ensures.value) in
    rw (p.1, p.2) (first_bad d c.args.self.bytes.now image (map frame_at xs ++ shown ∷ []) (map frame_at (take k xs)) (map frame_at (drop (suc k) xs) ++ shown ∷ []) (frame_at f) (slots_of c.loop-frame.slots) c.args.steps.now
    c.loop-frame.steps c.in_err-channels.field-0.0 (split_at frame_at xs k f shown within is) c.loop-frame.invariant.saved c.in_err-channels.ensures.err)

pub loop-frame-preserved : goal.loop-frame-preserved
loop-frame-preserved g c =
    let d = g.D.Decoder.meaning in
    let image = image_of c.args.self.image.now in
    let xs = c.args.self.frames.now.saved.items in
    let k = c.loop-frame.frame-index in
    let f = c.frame-item.result in
    let grids = c.in_ok-channels.channels.items in
    let slots = slots_of c.loop-frame.slots in
    let slot = f.header.frame_use.save_as_reference in
    let within : k < length xs = omega (arith, c.loop-frame-test.true, c.deref-frame-items.ensures.len) in
    let is : get_or xs k f ≡ f = sym (c.frame-item.is ∙ ap (λ (l : List FrameFront). get_or l k f) c.deref-frame-items.ensures.value) in
    let longer : map frame_at (take (k + 1) xs) ≡ map frame_at (take k xs) ++ frame_at f ∷ [] = map_more frame_at xs k f within ∙ ap (λ v. map frame_at (take k xs) ++ frame_at v ∷ []) is in
    let put : slots_of c.save.new.self ≡ saved_in slots slot c.size-size.result grids = c.save.ensures in
    record {
      saved = rw longer (saved_more d c.args.self.bytes.now image (map frame_at (take k xs)) (frame_at f) no_slots slots (slots_of c.save.new.self) grids c.args.steps.now c.loop-frame.steps c.decode.new.steps c.loop-frame.invariant.saved
          c.in_ok-channels.ensures.ok (put ∙ ap (λ (z : Size). saved_in slots slot z grids) c.size-size.ensures));
      held = subst (λ (s : Slots). HoldChannels image s) (sym put)
          (hold_more image slot slots c.size-size.result grids c.loop-frame.invariant.held (rw c.size-size.ensures c.in_ok-channels.ensures.sides));
    }
