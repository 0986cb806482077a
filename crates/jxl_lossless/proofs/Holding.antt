-- Slots that hold the channels of saved frames.
use Rattle.std.proofs.Common.{◌≡◌, ◌≢◌, ℕ, ◌<◌, ◌≤◌, ℤ, List, length, get_or, Option, Some, None, false, sym, ap, ◌∙◌, arith, subst, ◌⊎◌, inl, inr}
use Rattle.std.specs.Float.{Float}
use Rattle.std.proofs.lemmas.List.{get_or-set_same, get_or-set_other, get_or_past, length-set}
use Rattle.jxlm_base.specs.Grid.{Grid}
use Rattle.jxl_image_header.specs.Images.{Image}
use Rattle.jxl_image_header.specs.declared.size.Size.{Size}
use Rattle.jxl_frame_header.specs.Frames.{has_shifts}
use Rattle.jxl_picture.specs.Limits.{channel_count}
use Rattle.jxl_picture.specs.Pictures.{AreChannels}
use Rattle.jxl_patches.specs.Slots.{HoldFrames, Saved, Slots, no_slots, saved_in, saved_with}
use Rattle.jxl_patches.proofs.Holding.{none_held, same_or_other, within_or_not}
use Rattle.jxl_lossless.specs.Saved.{HoldChannels}
use Rattle.jxl_lossless.proofs.Channels.{one_size}

pub hold_none : (image : Image) → HoldChannels image no_slots
hold_none image k f e = absurd (none_held k f e)

module _ (image : Image) (k : ℕ) (slots : Slots) (size : Size) (grids : List (Grid ℤ)) (singles : Option (List (Grid Float))) (held : HoldChannels image slots) (are : AreChannels image size grids) where
  abbrev filled : Slots
  filled = saved_with slots k size grids singles

  abbrev frame : Saved
  frame = record { size = size; channels = grids; singles = singles }

  here : (j : ℕ) (f : Saved) → j ≡ k → j < length filled → get_or filled j None ≡ Some f → AreChannels image f.size f.channels
  here j f same lt e =
      let at : get_or filled j None ≡ Some frame =
      ap (λ m. get_or filled m None) same ∙ get_or-set_same slots k (Some frame) None (omega (arith, same, lt, length-set slots k (Some frame))) in
      let is : frame ≡ f = cc in
      subst (λ (x : Saved). AreChannels image x.size x.channels) is are

  there : (j : ℕ) (f : Saved) → j ≢ k → get_or filled j None ≡ Some f → AreChannels image f.size f.channels
  there j f other e = held j f (sym (get_or-set_other slots k j (Some frame) None other) ∙ e)

  beyond : (j : ℕ) (f : Saved) → length filled ≤ j → get_or filled j None ≢ Some f
  beyond j f past e = let none = get_or_past filled j None past in cc

  pub hold_with : HoldChannels image (saved_with slots k size grids singles)
  hold_with j f e = by (same_or_other j k) (within_or_not j (length filled)) where
    by : (j ≡ k) ⊎ (j ≢ k) → (j < length filled) ⊎ (length filled ≤ j) → AreChannels image f.size f.channels
    by (inr ne) within = there j f ne e
    by (inl same) (inl lt) = here j f same lt e
    by (inl same) (inr past) = absurd (beyond j f past e)

pub hold_more : (image : Image) (k : ℕ) (slots : Slots) (size : Size) (grids : List (Grid ℤ)) → HoldChannels image slots → AreChannels image size grids → HoldChannels image (saved_in slots k size grids)
hold_more image k slots size grids held are = hold_with image k slots size grids None held are

-- where no extra channel has a size of its own, so do patches ask for them
pub hold_frames : (image : Image) (slots : Slots) → has_shifts image ≡ false → HoldChannels image slots → HoldFrames (channel_count image) slots
hold_frames image slots none held k f e = one_size image f.size f.channels none (held k f e)
