-- The frames of a codestream are decoded in one way.
use Rattle.std.proofs.Common.{◌≡◌, ℕ, ◌+◌, ℤ, List, [], ◌∷◌, ◌++◌, None, sym, subst}
use Rattle.jxlm_bits.specs.Decoding.{Meaning}
use Rattle.jxlm_base.specs.Grid.{Grid}
use Rattle.jxl_image_header.specs.Images.{Image, image_refusal}
use Rattle.jxl_frame_header.specs.Frames.{frame_size}
use Rattle.jxl_picture.specs.Limits.{cells_of}
use Rattle.jxl_picture.specs.declared.limits.Limits.{Limits}
use Rattle.jxl_codestream.specs.Fronts.{FrameAt, FrameStands, FrontStands, end_of}
use Rattle.jxl_patches.specs.Slots.{Slots, no_slots, saved_in}
use Rattle.jxl_lossless.specs.Frames.{FrameFails, IsFrame}
use Rattle.jxl_lossless.specs.Saved.{AreDecoded, AreSaved, FramesFail, HoldChannels}
use Rattle.jxl_lossless.specs.declared.error.FileError.{FileError}
use Rattle.jxl_lossless.specs.declared.error.FileError.TheVariants as errors
use Rattle.jxl_lossless.proofs.Holding.{hold_more, hold_none}
use Rattle.jxl_lossless_laws.proofs.FrameErrors.{frame_without_error}
use Rattle.jxl_lossless_laws.proofs.OneFrame.{frame_channels, same_frame}
use Rattle.jxl_lossless_laws.proofs.OneFront.{Follow, begins_of, image_before}
use Rattle.jxl_lossless_laws.proofs.Patching.{SameSlots, same_none, same_saved}
use Rattle.jxl_lossless_laws.specs.Errors.{IsFileMemory}
use Rattle.jxl_lossless_laws.specs.Same.{AreSameChannels}

heads : (x y : FrameAt) (xs ys : List FrameAt) → x ∷ xs ≡ y ∷ ys → x ≡ y
heads x y xs ys e = cc

tails : (x y : FrameAt) (xs ys : List FrameAt) → x ∷ xs ≡ y ∷ ys → xs ≡ ys
tails x y xs ys e = cc

nothing_after : (ys : List FrameAt) (y : FrameAt) (zs : List FrameAt) → [] ≡ ys ++ y ∷ zs → ⊥
nothing_after [] y zs e = cc
nothing_after (x ∷ ys) y zs e = cc

module _ {D : Type 0} (d : Meaning D) (limits : Limits) (bytes : List ℕ) (image : Image) (supported : image_refusal image ≡ None) where
  abbrev Saves : List FrameAt → Slots → Slots → ℕ → ℕ → Type 0
  Saves fs old new before after = AreSaved d bytes image fs old new before after

  abbrev next : Slots → FrameAt → List (Grid ℤ) → Slots
  next old f grids = saved_in old f.header.frame_use.save_as_reference (frame_size image.size f.header) grids

  -- what one frame more leaves
  module _ (used : ℕ) (f : FrameAt) (stands : FrameStands d limits bytes image used f) (old other : Slots) (same : SameSlots old other) (held : HoldChannels image old) (gs hs : List (Grid ℤ)) (b m c n : ℕ)
      (one : IsFrame d image old bytes f gs b m) where
    next_same : IsFrame d image other bytes f hs c n → SameSlots (next old f gs) (next other f hs)
    next_same two = same_saved old other f.header.frame_use.save_as_reference (frame_size image.size f.header) gs hs same
        (same_frame d limits bytes image supported used f stands old other held same gs hs b m c n one two)

    next_held : HoldChannels image (next old f gs)
    next_held = hold_more image f.header.frame_use.save_as_reference old (frame_size image.size f.header) gs held (frame_channels d limits bytes image supported used f stands old held gs b m one)

  -- slots that hold the same before them hold the same after them
  same_saves : (fs : List FrameAt) (start used end counted : ℕ) → Follow d limits bytes image fs start used end counted → (old other new last : Slots) (b a c e : ℕ) → SameSlots old other → HoldChannels image old →
      Saves fs old new b a → Saves fs other last c e → SameSlots new last × HoldChannels image new
  same_saves [] start used end counted follow old other new last b a c e same held one two =
      (subst (λ (s : Slots). SameSlots s last) (sym one.0) (subst (SameSlots old) (sym two.0) same), subst (HoldChannels image) (sym one.0) held)
  same_saves (f ∷ fs) start used end counted follow old other new last b a c e same held (gs, m, is, rest) (hs, n, too, others) =
      same_saves fs (start + end_of f.entries) (used + cells_of (frame_size image.size f.header)) end counted follow.3 (next old f gs) (next other f hs) new last m a n e
      (next_same used f follow.1 old other same held gs hs b m c n is too) (next_held used f follow.1 old other same held gs hs b m c n is) rest others

  -- no frame has an error, where all are decoded
  all_well : (fs : List FrameAt) (shown : FrameAt) (start used end counted : ℕ) → Follow d limits bytes image fs start used end counted → FrameStands d limits bytes image counted shown → (old other new slots : Slots) (b a c e from to : ℕ) →
      SameSlots old other → HoldChannels image old → Saves fs old new b a → (gs : List (Grid ℤ)) → IsFrame d image new bytes shown gs from to →
      (decoded : List FrameAt) (frame : FrameAt) (others : List FrameAt) → fs ++ shown ∷ [] ≡ decoded ++ frame ∷ others → Saves decoded other slots c e → (error : FileError) → FrameFails d image slots bytes frame error → IsFileMemory error
  all_well [] shown start used end counted follow stands old other new slots b a c e from to same held one gs is [] frame others are two error fails =
      let slots_same : SameSlots new slots = subst (λ (s : Slots). SameSlots s slots) (sym one.0) (subst (SameSlots old) (sym two.0) same) in
      frame_without_error d limits bytes image supported counted shown stands new slots slots_same gs from to is error
      (subst (λ (f : FrameAt). FrameFails d image slots bytes f error) (sym (heads shown frame [] others are)) fails)
  all_well [] shown start used end counted follow stands old other new slots b a c e from to same held one gs is (g ∷ decoded) frame others are two error fails =
      absurd (nothing_after decoded frame others (tails shown g [] (decoded ++ frame ∷ others) are))
  all_well (f ∷ fs) shown start used end counted follow stands old other new slots b a c e from to same held (hs, m, own, rest) gs is [] frame others are two error fails =
      let slots_same : SameSlots old slots = subst (SameSlots old) (sym two.0) same in
      frame_without_error d limits bytes image supported used f follow.1 old slots slots_same hs b m own error
      (subst (λ (g : FrameAt). FrameFails d image slots bytes g error) (sym (heads f frame (fs ++ shown ∷ []) others are)) fails)
  all_well (f ∷ fs) shown start used end counted follow stands old other new slots b a c e from to same held (hs, m, own, rest) gs is (g ∷ decoded) frame others are (ks, n, too, left) error fails =
      let is_f : f ≡ g = heads f g (fs ++ shown ∷ []) (decoded ++ frame ∷ others) are in
      let too_f = subst (λ (x : FrameAt). IsFrame d image other bytes x ks c n) (sym is_f) too in
      let left_f = subst (λ (x : FrameAt). Saves decoded (next other x ks) slots n e) (sym is_f) left in
      all_well fs shown (start + end_of f.entries) (used + cells_of (frame_size image.size f.header)) end counted follow.3 stands (next old f hs) (next other f ks) new slots m a n e from to
      (next_same used f follow.1 old other same held hs ks b m c n own too_f) (next_held used f follow.1 old other same held hs ks b m c n own) rest gs is decoded frame others
      (tails f g (fs ++ shown ∷ []) (decoded ++ frame ∷ others) are) left_f error fails

module _ {D : Type 0} (d : Meaning D) (limits : Limits) (bytes : List ℕ) (image : Image) (saved : List FrameAt) (shown : FrameAt) (h : FrontStands d limits bytes image saved shown) where
  supported : image_refusal image ≡ None
  supported = (image_before d limits bytes image saved shown h).1.1

  -- a codestream has one list of channels
  pub same_decoded : (gs hs : List (Grid ℤ)) (before after from to : ℕ) → AreDecoded d bytes image saved shown gs before after → AreDecoded d bytes image saved shown hs from to → AreSameChannels gs hs
  same_decoded gs hs before after from to (slots, m, are, is) (others, n, too, there) =
      let b = begins_of d limits bytes image h.1 in
      let saves = same_saves d limits bytes image supported saved _ 0 shown.start h.0 b.follow no_slots no_slots slots others before m from n same_none (hold_none image) are too in
      same_frame d limits bytes image supported h.0 shown h.2 slots others saves.1 saves.0 gs hs m after n to is there

  -- one of its frames has this error, after others that are decoded
  abbrev Wrong : FileError → Type 0
  Wrong e = (decoded : List FrameAt) × (frame : FrameAt) × (others : List FrameAt) × (saved ++ shown ∷ [] ≡ decoded ++ frame ∷ others)
      × (slots : Slots) × (before : ℕ) × (after : ℕ) × AreSaved d bytes image decoded no_slots slots before after × FrameFails d image slots bytes frame e

  -- and is decoded without an error
  pub decoded_without_error : (gs : List (Grid ℤ)) (before after : ℕ) → AreDecoded d bytes image saved shown gs before after → (e : FileError) → FramesFail d bytes image (saved ++ shown ∷ []) e → IsFileMemory e
  decoded_without_error gs before after (slots, m, are, is) error fails = by error fails where
    of : (e : FileError) → Wrong e → IsFileMemory e
    of e (decoded, frame, others, split, last, c, n, saves, wrong) =
        let b = begins_of d limits bytes image h.1 in
        all_well d limits bytes image supported saved shown _ 0 shown.start h.0 b.follow h.2 no_slots no_slots slots last before m c n m after same_none (hold_none image) are gs is decoded frame others split saves e wrong

    by : (e : FileError) → FramesFail d bytes image (saved ++ shown ∷ []) e → IsFileMemory e
    by errors.OutOfMemory k = tt
    by (errors.Patches e) k = of (errors.Patches e) k
    by (errors.Start e) k = of (errors.Start e) k
    by (errors.Tree e) k = of (errors.Tree e) k
    by errors.TooManyDecisions k = of errors.TooManyDecisions k
    by (errors.Samples e) k = of (errors.Samples e) k
    by (errors.File e) k = of (errors.File e) k
    by (errors.Front e) k = of (errors.Front e) k
