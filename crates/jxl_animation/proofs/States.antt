-- Where decoders of frames are, and what fails there.
use Rattle.std.proofs.Common.{◌≡◌, ℕ, ◌+◌, ◌-◌, ◌<◌, ◌≤◌, ◌≢◌, ℤ, Bool, true, false, List, [], ◌∷◌, ◌++◌, length, get_or, drop, Option, None, Some, ◌⊎◌, inl, inr, refl, sym, ap, subst, ◌∙◌, arith}
use Rattle.std.specs.Prelude.{if◌then◌else◌, not, nat_lt, slice_get, option_and_then, ◌&&◌, ◌||◌}
use Rattle.std.specs.Float.{Float}
use Rattle.std.proofs.lemmas.List.{get_or-set_same, get_or-set_other, get_or_past, length-set}
use Rattle.std.proofs.lemmas.Option.{get_or_from_slice_get, slice_get_within}
use Rattle.jxlm_base.specs.Grid.{Grid, grid}
use Rattle.jxlm_bits.specs.ErrorKind.{UnlessMemory, UnlessNoMemory, kind_of}
use Rattle.jxlm_bits.specs.Grammar.{IsErrorAt}
use Rattle.jxlm_bits.specs.declared.error.Error.{Error}
use Rattle.jxl_coding.specs.Parse.{decoder_at}
use Rattle.jxl_coding.specs.Tokens.{entropy}
use Rattle.jxl_image_header.specs.Images.{Image}
use Rattle.jxl_image_header.specs.declared.size.Size.{Size}
use Rattle.jxl_frame_header.specs.Frames.{Frame, frame_header, frame_size, is_saved}
use Rattle.jxl_picture.specs.Limits.{cells_of}
use Rattle.jxl_picture.specs.Pictures.{AreChannels}
use Rattle.jxl_picture.specs.declared.limits.Limits.{Limits}
use Rattle.jxl_codestream.specs.Fronts.{FailsAt, FrameAt, PartsFail, PartsStand}
use Rattle.jxl_codestream.specs.declared.error.FrontError.{FrontError}
use Rattle.jxl_codestream.specs.declared.error.FrontError.TheVariants as fronts
use Rattle.jxl_codestream.proofs.Fronts.{fails_at}
use Rattle.jxl_patches.specs.Slots.{HoldSingles, IsOfSize, Saved, Slots, no_slots, saved_with, single_of}
use Rattle.jxl_patches.proofs.Holding.{none_held, same_or_other, within_or_not}
use Rattle.jxl_layers.specs.Compositions.{AreSinglesIf, IsPictureOf, is_displayed, is_final, is_kept, picture_size, slots_after}
use Rattle.jxl_lossless.specs.Frames.{FrameFails, IsFrame}
use Rattle.jxl_lossless.specs.Saved.{HoldChannels}
use Rattle.jxl_lossless.proofs.Holding.{hold_with}
use Rattle.jxl_lossless.specs.declared.error.FileError.{FileError}
use Rattle.jxl_lossless.specs.declared.error.FileError.TheVariants as files
use Rattle.jxl_animation.specs.States.{ComesNext, FailsNext, HeaderGoesOn, Makes, OneMore, Passes, State, state_after, used_before}
use Rattle.jxl_animation.specs.declared.error.AnimationError.TheVariants as errors

-- states are the same by their parts
pub same_state : (s t : State) → s.slots ≡ t.slots → s.start ≡ t.start → s.used ≡ t.used → s.done ≡ t.done → s ≡ t
same_state s t slots start used done =
    ap {B = State} (λ (v : Slots). record { slots = v; start = s.start; used = s.used; done = s.done }) slots
    ∙ ap {B = State} (λ (v : ℕ). record { slots = t.slots; start = v; used = s.used; done = s.done }) start
    ∙ ap {B = State} (λ (v : ℕ). record { slots = t.slots; start = t.start; used = v; done = s.done }) used
    ∙ ap {B = State} (λ (v : Bool). record { slots = t.slots; start = t.start; used = t.used; done = v }) done

module _ (limits : Limits) (bytes : List ℕ) (image : Image) (s : State) where
  -- the header of the next frame has an error
  pub header_fails : (here : List ℕ) (p q : ℕ) (e : Error) → here ≡ drop s.start bytes → p ≡ 0 → UnlessNoMemory (kind_of e) (IsErrorAt ((frame_header image).read here p) (kind_of e) q) →
      FailsNext limits bytes image s (errors.File (files.Front (fronts.FrameHeader e)))
  header_fails here p q e lies begin h =
      subst (λ (b : List ℕ). UnlessMemory (kind_of e) (FailsAt (frame_header image) b 0 (kind_of e))) lies (fails_at (frame_header image) here p 0 q (kind_of e) begin h)

  -- what follows its header has one
  pub parts_fail : (h : Frame) (p used : ℕ) (e : FrontError) → used ≡ used_before image.size s.used h → HeaderGoesOn limits bytes image s h p → PartsFail (entropy decoder_at) limits (drop s.start bytes) image used h p e →
      FailsNext limits bytes image s (errors.File (files.Front e))
  parts_fail h p used e is goes fails = by e (subst (λ (n : ℕ). PartsFail (entropy decoder_at) limits (drop s.start bytes) image n h p e) is fails) where
    by : (e : FrontError) → PartsFail (entropy decoder_at) limits (drop s.start bytes) image (used_before image.size s.used h) h p e → FailsNext limits bytes image s (errors.File (files.Front e))
    by (fronts.FrameHeader e) f = absurd f
    by (fronts.Frame r) f = absurd f
    by e f = (h, p, goes, f)

  -- the frame comes next
  pub comes_next : (h : Frame) (p used : ℕ) (f : FrameAt) → s.done ≡ false → f.start ≡ s.start → f.header ≡ h → used ≡ used_before image.size s.used h → HeaderGoesOn limits bytes image s h p →
      PartsStand (entropy decoder_at) limits bytes image used f p → ComesNext limits bytes image s f
  comes_next h p used f going begin is count goes parts = record {
    going = going;
    begin = begin;
    end = p;
    goes = subst (λ (x : Frame). HeaderGoesOn limits bytes image s x p) (sym is) goes;
    parts = subst (λ (n : ℕ). PartsStand (entropy decoder_at) limits bytes image n f p) (count ∙ ap (λ (x : Frame). used_before image.size s.used x) (sym is)) parts;
  }

  -- its samples have an error
  pub frame_fails : (f : FrameAt) (e : FileError) → ComesNext limits bytes image s f → FrameFails (entropy decoder_at) image s.slots bytes f e → FailsNext limits bytes image s (errors.File e)
  frame_fails f files.OutOfMemory comes h = tt
  frame_fails f (files.Front e) comes h = absurd h
  frame_fails f e comes h = (f, comes, h)

  -- it is decoded, and makes these channels
  pub makes : (f : FrameAt) (channels : List (Grid ℤ)) (singles : Option (List (Grid Float))) (pictures : List (Grid ℤ)) (n m : ℕ) → ComesNext limits bytes image s f → IsFrame (entropy decoder_at) image s.slots bytes f channels n m →
      IsPictureOf image f.header s.slots channels singles pictures → Makes limits bytes image s f singles pictures (state_after image s f singles pictures) n m
  makes f channels singles pictures n m comes decoded made = record { comes = comes; channels = channels; decoded = decoded; made = made; after = refl }

-- a frame that is not shown is not the last
pub not_final : (h : Frame) → is_displayed h ≡ false → is_final h ≡ false
not_final h e = by (not (is_saved h)) h.frame_use.is_last (nat_lt 0 h.frame_use.duration) e where
  by : (a b c : Bool) → (a && (b || c)) ≡ false → (a && b) ≡ false
  by false b c e = refl
  by true false c e = refl
  by true true c e = cc

-- one frame more that is not shown
pub one_more : (limits : Limits) (bytes : List ℕ) (image : Image) (s t u : State) (n m k : ℕ) (fs : List FrameAt) (f : FrameAt) (singles : Option (List (Grid Float))) (pictures : List (Grid ℤ)) → Passes limits bytes image s n fs t m →
    Makes limits bytes image t f singles pictures u m k → is_displayed f.header ≡ false → Passes limits bytes image s n (fs ++ f ∷ []) u k
one_more limits bytes image s t u n m k fs f singles pictures passes makes hidden = OneMore fs t m f singles pictures u k passes makes hidden

-- with the next frame the frames are above the limits
pub too_large : (limits : Limits) (bytes : List ℕ) (image : Image) (s : State) (h : Frame) (p spare : ℕ) → spare ≡ cells_of image.size - cells_of (frame_size image.size h) → limits.pixels - s.used < spare → s.used ≤ limits.pixels →
    HeaderGoesOn limits bytes image s h p → FailsNext limits bytes image s (errors.File (files.Front fronts.FramesTooLarge))
too_large limits bytes image s h p spare is more within goes = (h, p, goes, λ allow. absurd (beyond (cells_of image.size) (cells_of (frame_size image.size h)) allow.2)) where
  beyond : (a b : ℕ) → s.used + (cells_of image.size - cells_of (frame_size image.size h)) + b ≤ limits.pixels → ⊥
  beyond a b le = omega (arith, le, is, more, within)

-- what the slots hold after a frame has all channels
pub hold_after : (image : Image) (h : Frame) (slots : Slots) (singles : Option (List (Grid Float))) (pictures : List (Grid ℤ)) → HoldChannels image slots → AreChannels image (picture_size image.size h) pictures →
    HoldChannels image (slots_after image.size h slots singles pictures)
hold_after image h slots singles pictures held are = by (is_kept h) where
  by : (b : Bool) → HoldChannels image (if b then saved_with slots h.frame_use.save_as_reference (picture_size image.size h) pictures singles else slots)
  by true = hold_with image h.frame_use.save_as_reference slots (picture_size image.size h) pictures singles held are
  by false = held

-- no slot of none holds a frame that was blended
pub no_singles : HoldSingles no_slots
no_singles k c f g held single = absurd (none_held k f held)

-- what channel c of a frame stood for
abbrev single_in : ℕ → Option Saved → Option (Grid Float)
single_in c held = option_and_then (λ (f : Saved). option_and_then (λ (all : List (Grid Float)). slice_get all c) f.singles) held

-- the values of a frame that is saved have its size
module _ (k : ℕ) (slots : Slots) (size : Size) (grids : List (Grid ℤ)) (singles : Option (List (Grid Float))) (held : HoldSingles slots) (are : AreSinglesIf size singles) where
  abbrev filled : Slots
  filled = saved_with slots k size grids singles

  abbrev frame : Saved
  frame = record { size = size; channels = grids; singles = singles }

  of_size : (c : ℕ) (g : Grid Float) → single_in c (Some frame) ≡ Some g → IsOfSize size g
  of_size c g e = by singles are e where
    by : (o : Option (List (Grid Float))) → AreSinglesIf size o → option_and_then (λ (all : List (Grid Float)). slice_get all c) o ≡ Some g → IsOfSize size g
    by None are e = let bad : ⊥ = cc in absurd bad
    by (Some all) are e = subst (λ (x : Grid Float). IsOfSize size x) (get_or_from_slice_get all c g (grid 0 0 []) e) (are c (slice_get_within all c g e))

  here : (j c : ℕ) (f : Saved) (g : Grid Float) → j ≡ k → j < length filled → get_or filled j None ≡ Some f → single_of filled j c ≡ Some g → IsOfSize f.size g
  here j c f g same lt e single =
      let at : get_or filled j None ≡ Some frame =
      ap (λ m. get_or filled m None) same ∙ get_or-set_same slots k (Some frame) None (omega (arith, same, lt, length-set slots k (Some frame))) in
      let is : frame ≡ f = cc in
      let one : single_in c (Some frame) ≡ Some g = sym (ap (λ (o : Option Saved). single_in c o) at) ∙ single in
      subst (λ (x : Saved). IsOfSize x.size g) is (of_size c g one)

  there : (j c : ℕ) (f : Saved) (g : Grid Float) → j ≢ k → get_or filled j None ≡ Some f → single_of filled j c ≡ Some g → IsOfSize f.size g
  there j c f g other e single =
      let same = get_or-set_other slots k j (Some frame) None other in
      held j c f g (sym same ∙ e) (sym (ap (λ (o : Option Saved). single_in c o) same) ∙ single)

  beyond : (j : ℕ) (f : Saved) → length filled ≤ j → get_or filled j None ≢ Some f
  beyond j f past e = let none = get_or_past filled j None past in cc

  hold_singles : HoldSingles (saved_with slots k size grids singles)
  hold_singles j c f g e single = by (same_or_other j k) (within_or_not j (length filled)) where
    by : (j ≡ k) ⊎ (j ≢ k) → (j < length filled) ⊎ (length filled ≤ j) → IsOfSize f.size g
    by (inr ne) within = there j c f g ne e single
    by (inl same) (inl lt) = here j c f g same lt e single
    by (inl same) (inr past) = absurd (beyond j f past e)

pub singles_after : (size : Size) (h : Frame) (slots : Slots) (singles : Option (List (Grid Float))) (pictures : List (Grid ℤ)) → HoldSingles slots → AreSinglesIf (picture_size size h) singles →
    HoldSingles (slots_after size h slots singles pictures)
singles_after size h slots singles pictures held are = by (is_kept h) where
  by : (b : Bool) → HoldSingles (if b then saved_with slots h.frame_use.save_as_reference (picture_size size h) pictures singles else slots)
  by true = hold_singles h.frame_use.save_as_reference slots (picture_size size h) pictures singles held are
  by false = held
