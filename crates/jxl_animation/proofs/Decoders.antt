-- Decoders of frames, before and after a frame.
use Rattle.std.proofs.Common.{◌≡◌, ℕ, ◌+◌, ◌*◌, ◌^◌, ◌<◌, ◌≤◌, ◌∷◌, ◌++◌, ℤ, Bool, List, [], length, Option, Some, None, Ok, inl, inr, true, false, refl, sym, ap, subst, ◌∙◌, arith}
use Rattle.std.specs.Prelude.{IfSome, MatchOption, if◌then◌else◌, nat_lt, not, ◌&&◌, ◌||◌}
use Rattle.jxlm_base.specs.Grid.{Grid}
use Rattle.jxl_container.specs.Files.{HasCodestream}
use Rattle.jxl_image_header.specs.Images.{Image, image_of}
use Rattle.jxl_image_header.specs.declared.image.ImageHeader.{ImageHeader}
use Rattle.jxl_image_header.specs.declared.size.Size.{Size}
use Rattle.jxl_frame_header.specs.Frames.{Frame, frame_of, frame_size, is_saved}
use Rattle.jxl_codestream.specs.FrontParts.{HasLowShifts, bytes_if, frame_at}
use Rattle.jxl_picture.specs.Limits.{channel_count}
use Rattle.jxl_picture.specs.Orientations.{IsUpright}
use Rattle.jxl_picture.specs.Pictures.{AreChannels, IsWhole}
use Rattle.jxl_picture.specs.declared.picture.Picture.{Picture}
use Rattle.jxl_picture.specs.declared.limits.Limits.{Limits}
use Rattle.jxl_codestream.specs.Fronts.{FrameAt, end_of}
use Rattle.jxl_patches.specs.SavedParts.{singles_in, slots_of}
use Rattle.jxl_patches.specs.Slots.{HoldSingles, Slots, no_slots}
use Rattle.jxl_lossless.specs.Saved.{HoldChannels}
use Rattle.jxl_lossless.proofs.Holding.{hold_none}
use Rattle.jxl_layers.specs.Compositions.{is_displayed, is_final, picture_size, slots_after}
use Rattle.jxl_layers.specs.Openings.{IsReadyOpening, Opens}
use Rattle.jxl_layers.specs.declared.opening.Opening.{Opening}
use Rattle.jxl_animation.specs.Files.{BeginFrames, FrameOfFileFails, HasFewerFrames, IsFrameOfFile, IsShownOfFile}
use Rattle.jxl_animation.specs.Decoders.{HasShown, IsDecoderOf, IsReadyDecoder, IsReadySource, IsReadyState, PictureFails, ShowsPicture, bytes_in, image_in, state_of}
use Rattle.jxl_animation.specs.Inner.Readings.{GoesOn, IsMade, IsShownIf, IsShownOf, used_after}
use Rattle.jxl_animation.specs.States.{EndsBefore, FailsAfter, FailsBy, FailsNext, Makes, NextPicture, NoFrame, NoPicture, Passes, ShowsFrames, ShowsNext, ShowsNth, State, first_state, state_after}
use Rattle.jxl_animation.specs.declared.error.AnimationError.{AnimationError}
use Rattle.jxl_animation.specs.declared.error.AnimationError.TheVariants as errors
use Rattle.jxl_lossless.specs.declared.error.FileError.TheVariants as files
use Rattle.jxl_animation.specs.declared.frames.FrameDecoder.{FrameDecoder}
use Rattle.jxl_animation.specs.declared.frames.Made.{Made}
use Rattle.jxl_animation.specs.declared.frames.ShownFrame.{ShownFrame}
use Rattle.jxl_animation.specs.declared.frames.ShownPicture.{ShownPicture}
use Rattle.jxl_animation.specs.declared.frames.Source.{Source}
use Rattle.jxl_animation.proofs.States.{hold_after, no_singles, not_final, one_more, same_state, singles_after}

module _ (x y : FrameDecoder) where
  -- where nothing has changed
  pub ready_same : y.source ≡ x.source → state_of y ≡ state_of x → IsReadyDecoder x → IsReadyDecoder y
  ready_same source state ready = record {
    source = subst (λ (s : Source). IsReadySource s) (sym source) ready.source;
    state = subst (λ (s : Source). IsReadyState s (state_of y)) (sym source) (subst (λ (s : State). IsReadyState x.source s) (sym state) ready.state);
  }

  module _ (m : Made) (slots : slots_of y.slots ≡ slots_after x.source.image.size (frame_of m.front.header) (slots_of x.slots) (singles_in m.singles) m.pictures.items) (used : y.used ≡ used_after x m.front) where
    pub ready_after : IsReadyDecoder x → IsMade x m → y.source ≡ x.source → y.start ≤ length (bytes_in x.source) → IsReadyDecoder y
    ready_after ready made source inside = record {
      source = subst (λ (s : Source). IsReadySource s) (sym source) ready.source;
      state = subst (λ (s : Source). IsReadyState s (state_of y)) (sym source) (record {
        inside = inside;
        within = subst (λ (n : ℕ). n ≤ x.source.limits.pixels) (sym used) made.within;
        held = subst (λ (s : Slots). HoldChannels (image_in x.source) s) (sym slots) (hold_after (image_in x.source) (frame_of m.front.header) (slots_of x.slots) (singles_in m.singles) m.pictures.items ready.state.held made.sides);
        singles = subst (λ (s : Slots). HoldSingles s) (sym slots) (singles_after x.source.image.size (frame_of m.front.header) (slots_of x.slots) (singles_in m.singles) m.pictures.items ready.state.singles made.singles);
      });
    }

    pub state_is : y.start ≡ m.front.start + end_of m.front.toc.entries.items → y.is_done ≡ is_final (frame_of m.front.header) → state_of y ≡ state_after (image_in x.source) (state_of x) (frame_at m.front) (singles_in m.singles) m.pictures.items
    state_is start done = same_state (state_of y) (state_after (image_in x.source) (state_of x) (frame_at m.front) (singles_in m.singles) m.pictures.items) slots start used done

-- by its header a picture is shown or not
pub hidden_if : (h : Frame) (pictures : List (Grid ℤ)) (r : Option ShownFrame) → r ≡ None → IsShownIf h pictures r → is_displayed h ≡ false
hidden_if h pictures r is shown = subst (λ (o : Option ShownFrame). IsShownIf h pictures o) is shown

pub shown_if : (h : Frame) (pictures : List (Grid ℤ)) (r : Option ShownFrame) (f : ShownFrame) → r ≡ Some f → IsShownIf h pictures r → IsShownOf h pictures f
shown_if h pictures r f is shown = subst (λ (o : Option ShownFrame). IsShownIf h pictures o) is shown

-- a frame that is shown makes a picture
unsaved : (saved : Bool) (rest : Bool) (size frame : Size) → (not saved && rest) ≡ true → (if saved then frame else size) ≡ size
unsaved true rest size frame e = cc
unsaved false rest size frame e = refl

pub whole_if : (image : Image) (h : Frame) (pictures : List (Grid ℤ)) (r : Option ShownFrame) → AreChannels image (picture_size image.size h) pictures → IsShownIf h pictures r → IfSome r (λ f. IsWhole image f.channels.items)
whole_if image h pictures None are shown = tt
whole_if image h pictures (Some f) are shown =
    subst (λ (gs : List (Grid ℤ)). IsWhole image gs) (sym shown.channels)
    (subst (λ (z : Size). AreChannels image z pictures) (unsaved (is_saved h) (h.frame_use.is_last || nat_lt 0 h.frame_use.duration) image.size (frame_size image.size h) shown.displayed) are)

pub whole_shown : (x o : FrameDecoder) (r : Option ShownFrame) (f : ShownFrame) → r ≡ Some f → x.source ≡ o.source → IfSome r (λ g. IsWhole (image_in x.source) g.channels.items) → IsWhole (image_in o.source) f.channels.items
whole_shown x o r f is source whole =
    subst (λ (s : Source). IsWhole (image_in s) f.channels.items) source (subst (λ (q : Option ShownFrame). IfSome q (λ g. IsWhole (image_in x.source) g.channels.items)) is whole)

pub whole_next : (x o : FrameDecoder) (r : Option ShownFrame) → x.source ≡ o.source → IfSome r (λ g. IsWhole (image_in x.source) g.channels.items) → IfSome r (λ g. IsWhole (image_in o.source) g.channels.items)
whole_next x o r source whole = subst (λ (s : Source). IfSome r (λ g. IsWhole (image_in s) g.channels.items)) source whole

-- a file that was opened
pub opened_ready : (x : FrameDecoder) (bytes : List ℕ) (o : Opening) → bytes ≡ bytes_in x.source → x.source.image ≡ o.image → x.start ≡ o.start → x.used ≡ 0 → slots_of x.slots ≡ no_slots → IsReadyOpening bytes o → IsReadyDecoder x
opened_ready x bytes o same image start used slots ready = record {
  source = record {
    short = subst (λ (b : List ℕ). 8 * length b < 2 ^ 64) same ready.short;
    deep = subst (λ (i : ImageHeader). i.bit_depth.bits_per_sample ≤ 32) (sym image) ready.deep;
    many = subst (λ (i : ImageHeader). channel_count (image_of i) ≤ 2 ^ 20) (sym image) ready.many;
    low = subst (λ (i : ImageHeader). HasLowShifts (image_of i)) (sym image) ready.low;
  };
  state = record {
    inside = subst (λ (n : ℕ). n ≤ length (bytes_in x.source)) (sym start) (subst (λ (b : List ℕ). o.start ≤ length b) same ready.inside);
    within = subst (λ (n : ℕ). n ≤ x.source.limits.pixels) (sym used) (omega arith);
    held = subst (λ (s : Slots). HoldChannels (image_in x.source) s) (sym slots) (hold_none (image_in x.source));
    singles = subst (λ (s : Slots). HoldSingles s) (sym slots) no_singles;
  };
}

pub opened : (limits : Limits) (file : List ℕ) (x : FrameDecoder) (bytes : List ℕ) → bytes ≡ bytes_in x.source → HasCodestream file (Ok (bytes_in x.source)) → Opens limits bytes (image_in x.source) (bytes_if x.source.profile) x.start →
    x.source.limits ≡ limits → slots_of x.slots ≡ no_slots → x.used ≡ 0 → x.is_done ≡ false → IsDecoderOf limits file x
opened limits file x bytes same found opens limits_are slots used going = record {
  found = found;
  opens = subst (λ (b : List ℕ). Opens limits b (image_in x.source) (bytes_if x.source.profile) x.start) same opens;
  limits_are = limits_are;
  first = same_state (state_of x) (first_state x.start) slots refl used going;
}

-- decoder o went to x, and then has an error at the next frame
module _ (o x y : FrameDecoder) (n k : ℕ) (hidden : List FrameAt) (source : x.source ≡ o.source) (passes : Passes o.source.limits (bytes_in o.source) (image_in o.source) (state_of o) n hidden (state_of x) k) (going : x.is_done ≡ false) where
  pub fails_after : (e : AnimationError) → state_of y ≡ state_of x → FailsNext x.source.limits (bytes_in x.source) (image_in x.source) (state_of x) e → FailsAfter o.source.limits (bytes_in o.source) (image_in o.source) (state_of o) (state_of y) n e
  fails_after e same fails = subst (λ (t : State). FailsAfter o.source.limits (bytes_in o.source) (image_in o.source) (state_of o) t n e) (sym same) (record {
    hidden = hidden;
    steps = k;
    passes = passes;
    going = going;
    fails = subst (λ (s : Source). FailsNext s.limits (bytes_in s) (image_in s) (state_of x) e) source fails;
  })

-- decoder o went to x, and goes on to y by what the next frame made
module _ (o x y : FrameDecoder) (m : Made) (n k l : ℕ) (hidden : List FrameAt) (source : x.source ≡ o.source)
    (passes : Passes o.source.limits (bytes_in o.source) (image_in o.source) (state_of o) n hidden (state_of x) k) (goes : GoesOn x m k l)
    (state : state_of y ≡ state_after (image_in x.source) (state_of x) (frame_at m.front) (singles_in m.singles) m.pictures.items) where
  makes_next : Makes o.source.limits (bytes_in o.source) (image_in o.source) (state_of x) (frame_at m.front) (singles_in m.singles) m.pictures.items (state_of y) k l
  makes_next =
      subst (λ (t : State). Makes o.source.limits (bytes_in o.source) (image_in o.source) (state_of x) (frame_at m.front) (singles_in m.singles) m.pictures.items t k l) (sym (state ∙ ap (λ (s : Source). state_after (image_in s) (state_of x) (frame_at m.front) (singles_in m.singles) m.pictures.items) source))
      (subst (λ (s : Source). Makes s.limits (bytes_in s) (image_in s) (state_of x) (frame_at m.front) (singles_in m.singles) m.pictures.items (state_after (image_in s) (state_of x) (frame_at m.front) (singles_in m.singles) m.pictures.items) k l) source goes)

  pub passes_more : is_displayed (frame_of m.front.header) ≡ false → Passes o.source.limits (bytes_in o.source) (image_in o.source) (state_of o) n (hidden ++ frame_at m.front ∷ []) (state_of y) l
  passes_more none = one_more o.source.limits (bytes_in o.source) (image_in o.source) (state_of o) (state_of x) (state_of y) n k l hidden (frame_at m.front) (singles_in m.singles) m.pictures.items passes makes_next none

  pub goes_on : is_displayed (frame_of m.front.header) ≡ false → y.is_done ≡ false
  goes_on none = ap (λ (s : State). s.done) state ∙ not_final (frame_of m.front.header) none

  pub shows : (f : ShownFrame) → IsShownOf (frame_of m.front.header) m.pictures.items f → ShowsNext o.source.limits (bytes_in o.source) (image_in o.source) (state_of o) f (state_of y) n l
  shows f shown = record {
    hidden = hidden;
    middle = state_of x;
    steps = k;
    passes = passes;
    frame = frame_at m.front;
    singles = singles_in m.singles;
    makes = subst (λ (gs : List (Grid ℤ)). Makes o.source.limits (bytes_in o.source) (image_in o.source) (state_of x) (frame_at m.front) (singles_in m.singles) gs (state_of y) k l) (sym shown.channels) makes_next;
    displayed = shown.displayed;
    duration = shown.duration;
    timecode = shown.timecode;
  }

-- after this number of pictures decoder o went to x, and the next call takes it to y
module _ (o x y : FrameDecoder) (n k l number : ℕ) (source : x.source ≡ o.source) (before : ShowsFrames o.source.limits (bytes_in o.source) (image_in o.source) (state_of o) n number (state_of x) k) where
  next_shown : (f : ShownFrame) → ShowsNext x.source.limits (bytes_in x.source) (image_in x.source) (state_of x) f (state_of y) k l → ShowsNext o.source.limits (bytes_in o.source) (image_in o.source) (state_of x) f (state_of y) k l
  next_shown f shows = subst (λ (s : Source). ShowsNext s.limits (bytes_in s) (image_in s) (state_of x) f (state_of y) k l) source shows

  -- it shows one picture more
  pub shows_more : (r : Option ShownFrame) (f : ShownFrame) → r ≡ Some f → MatchOption r ((x.is_done ≡ true) × (y ≡ x) × (l ≡ k)) (λ f. ShowsNext x.source.limits (bytes_in x.source) (image_in x.source) (state_of x) f (state_of y) k l) →
      ShowsFrames o.source.limits (bytes_in o.source) (image_in o.source) (state_of o) n (number + 1) (state_of y) l
  shows_more None f is shows = let bad : ⊥ = cc in absurd bad
  shows_more (Some g) f is shows = NextPicture number (state_of x) k g (state_of y) l before (next_shown g shows)

  ended : (most : ℕ) → number ≤ most → (x.is_done ≡ true) × (y ≡ x) × (l ≡ k) → EndsBefore o.source.limits (bytes_in o.source) (image_in o.source) (state_of o) most (state_of y) n l
  ended most few none = record {
    count = number;
    few = few;
    shows = subst (λ (m : ℕ). ShowsFrames o.source.limits (bytes_in o.source) (image_in o.source) (state_of o) n number (state_of y) m) (sym none.2)
        (subst (λ (d : FrameDecoder). ShowsFrames o.source.limits (bytes_in o.source) (image_in o.source) (state_of o) n number (state_of d) k) (sym none.1) before);
    ended = ap (λ (d : FrameDecoder). d.is_done) none.1 ∙ none.0;
  }

  -- none is left
  pub ends_before : (most : ℕ) (r : Option ShownFrame) → number ≤ most → r ≡ None → MatchOption r ((x.is_done ≡ true) × (y ≡ x) × (l ≡ k)) (λ f. ShowsNext x.source.limits (bytes_in x.source) (image_in x.source) (state_of x) f (state_of y) k l) →
      EndsBefore o.source.limits (bytes_in o.source) (image_in o.source) (state_of o) most (state_of y) n l
  ends_before most None few is none = ended most few none
  ends_before most (Some f) few is shows = let bad : ⊥ = cc in absurd bad

  -- this is the picture that was asked for, or none is left
  pub shows_nth : (r : Option ShownFrame) → MatchOption r ((x.is_done ≡ true) × (y ≡ x) × (l ≡ k)) (λ f. ShowsNext x.source.limits (bytes_in x.source) (image_in x.source) (state_of x) f (state_of y) k l) →
      MatchOption r (EndsBefore o.source.limits (bytes_in o.source) (image_in o.source) (state_of o) number (state_of y) n l)
      (λ f. ShowsNth o.source.limits (bytes_in o.source) (image_in o.source) (state_of o) number f (state_of y) n l)
  shows_nth None none = ended number (omega arith) none
  shows_nth (Some f) shows = record { middle = state_of x; steps = k; before = before; next = next_shown f shows }

  pub fails_by : (most : ℕ) (e : AnimationError) → number ≤ most → FailsAfter x.source.limits (bytes_in x.source) (image_in x.source) (state_of x) (state_of y) k e →
      FailsBy o.source.limits (bytes_in o.source) (image_in o.source) (state_of o) most (state_of y) n e
  fails_by most e few fails = record {
    count = number;
    few = few;
    middle = state_of x;
    steps = k;
    shows = before;
    fails = subst (λ (s : Source). FailsAfter s.limits (bytes_in s) (image_in s) (state_of x) (state_of y) k e) source fails;
  }

-- of a file: where its frames begin
module _ (limits : Limits) (file : List ℕ) (number : ℕ) (x : FrameDecoder) (is : IsDecoderOf limits file x) where
  pub begins : BeginFrames limits file (bytes_in x.source) (image_in x.source) (bytes_if x.source.profile) x.start
  begins = record { found = is.found; opens = is.opens }

  pub nth_of_file : (y : FrameDecoder) (m : ℕ) (f : ShownFrame) (p : Picture) → y.source ≡ x.source → ShowsNth x.source.limits (bytes_in x.source) (image_in x.source) (state_of x) number f (state_of y) 0 m →
      IsUpright (image_in y.source) f.channels.items (image_of p.header) p.channels.items → p.profile ≡ y.source.profile → IsFrameOfFile limits file number p
  nth_of_file y m f p source shows upright profile = record {
    bytes = bytes_in x.source;
    image = image_in x.source;
    start = x.start;
    begin = subst (λ (icc : Option (List ℕ)). BeginFrames limits file (bytes_in x.source) (image_in x.source) icc x.start) (sym (ap bytes_if (profile ∙ ap (λ (s : Source). s.profile) source))) begins;
    shown = f;
    after = state_of y;
    steps = m;
    shows = subst (λ (s : State). ShowsNth limits (bytes_in x.source) (image_in x.source) s number f (state_of y) 0 m) is.first
        (subst (λ (l : Limits). ShowsNth l (bytes_in x.source) (image_in x.source) (state_of x) number f (state_of y) 0 m) is.limits_are shows);
    upright = subst (λ (s : Source). IsUpright (image_in s) f.channels.items (image_of p.header) p.channels.items) source upright;
  }

  pub fewer_of_file : (y : FrameDecoder) (m : ℕ) → EndsBefore x.source.limits (bytes_in x.source) (image_in x.source) (state_of x) number (state_of y) 0 m → HasFewerFrames limits file number
  fewer_of_file y m ends = record {
    bytes = bytes_in x.source;
    image = image_in x.source;
    icc = bytes_if x.source.profile;
    start = x.start;
    begin = begins;
    after = state_of y;
    steps = m;
    ends = subst (λ (s : State). EndsBefore limits (bytes_in x.source) (image_in x.source) s number (state_of y) 0 m) is.first
        (subst (λ (l : Limits). EndsBefore l (bytes_in x.source) (image_in x.source) (state_of x) number (state_of y) 0 m) is.limits_are ends);
  }

  pub fewer_if : (y : FrameDecoder) (m n : ℕ) (r : Option ShownFrame) → n ≡ 0 → r ≡ None →
      MatchOption r (EndsBefore x.source.limits (bytes_in x.source) (image_in x.source) (state_of x) number (state_of y) n m) (λ f. ShowsNth x.source.limits (bytes_in x.source) (image_in x.source) (state_of x) number f (state_of y) n m) → HasFewerFrames limits file number
  fewer_if y m n None start is ends = fewer_of_file y m (subst (λ (k : ℕ). EndsBefore x.source.limits (bytes_in x.source) (image_in x.source) (state_of x) number (state_of y) k m) start ends)
  fewer_if y m n (Some f) start is ends = let bad : ⊥ = cc in absurd bad

  pub nth_if : (y : FrameDecoder) (m n : ℕ) (r : Option ShownFrame) (f : ShownFrame) (p : Picture) → n ≡ 0 → r ≡ Some f → y.source ≡ x.source →
      MatchOption r (EndsBefore x.source.limits (bytes_in x.source) (image_in x.source) (state_of x) number (state_of y) n m) (λ f. ShowsNth x.source.limits (bytes_in x.source) (image_in x.source) (state_of x) number f (state_of y) n m) →
      IsUpright (image_in y.source) f.channels.items (image_of p.header) p.channels.items → p.profile ≡ y.source.profile → IsFrameOfFile limits file number p
  nth_if y m n r f p start is source shows upright profile =
      nth_of_file y m f p source (subst (λ (k : ℕ). ShowsNth x.source.limits (bytes_in x.source) (image_in x.source) (state_of x) number f (state_of y) k m) start
      (subst (λ (q : Option ShownFrame). MatchOption q (EndsBefore x.source.limits (bytes_in x.source) (image_in x.source) (state_of x) number (state_of y) n m) (λ g. ShowsNth x.source.limits (bytes_in x.source) (image_in x.source) (state_of x) number g (state_of y) n m)) is shows)) upright profile

  frames_fail : (y : FrameDecoder) (e : AnimationError) → FailsBy x.source.limits (bytes_in x.source) (image_in x.source) (state_of x) number (state_of y) 0 e → FrameOfFileFails limits file number e
  frames_fail y e fails = inr (record {
    bytes = bytes_in x.source;
    image = image_in x.source;
    icc = bytes_if x.source.profile;
    start = x.start;
    begin = begins;
    after = state_of y;
    fails = subst (λ (s : State). FailsBy limits (bytes_in x.source) (image_in x.source) s number (state_of y) 0 e) is.first
        (subst (λ (l : Limits). FailsBy l (bytes_in x.source) (image_in x.source) (state_of x) number (state_of y) 0 e) is.limits_are fails);
  })

  pub frames_fail_if : (y : FrameDecoder) (n : ℕ) (e : AnimationError) → n ≡ 0 → FailsBy x.source.limits (bytes_in x.source) (image_in x.source) (state_of x) number (state_of y) n e → FrameOfFileFails limits file number e
  frames_fail_if y n e start fails = frames_fail y e (subst (λ (k : ℕ). FailsBy x.source.limits (bytes_in x.source) (image_in x.source) (state_of x) number (state_of y) k e) start fails)

  -- it is out of memory after the frames
  pub no_memory : FrameOfFileFails limits file number (errors.File files.OutOfMemory)
  no_memory = inr (record {
    bytes = bytes_in x.source;
    image = image_in x.source;
    icc = bytes_if x.source.profile;
    start = x.start;
    begin = begins;
    after = first_state x.start;
    fails = record {
      count = 0;
      few = omega arith;
      middle = first_state x.start;
      steps = 0;
      shows = NoPicture;
      fails = record { hidden = []; steps = 0; passes = NoFrame; going = refl; fails = tt };
    };
  })

-- the next frame that is shown, and none
pub next_some : (x y : FrameDecoder) (n m : ℕ) (r : Option ShownFrame) (f : ShownFrame) → r ≡ Some f →
    MatchOption r ((x.is_done ≡ true) × (y ≡ x) × (m ≡ n)) (λ g. ShowsNext x.source.limits (bytes_in x.source) (image_in x.source) (state_of x) g (state_of y) n m) →
    ShowsNext x.source.limits (bytes_in x.source) (image_in x.source) (state_of x) f (state_of y) n m
next_some x y n m r f is shows =
    subst (λ (q : Option ShownFrame). MatchOption q ((x.is_done ≡ true) × (y ≡ x) × (m ≡ n)) (λ g. ShowsNext x.source.limits (bytes_in x.source) (image_in x.source) (state_of x) g (state_of y) n m)) is shows

pub next_none : (x y : FrameDecoder) (n m : ℕ) (r : Option ShownFrame) → r ≡ None →
    MatchOption r ((x.is_done ≡ true) × (y ≡ x) × (m ≡ n)) (λ g. ShowsNext x.source.limits (bytes_in x.source) (image_in x.source) (state_of x) g (state_of y) n m) →
    (x.is_done ≡ true) × (y ≡ x) × (m ≡ n)
next_none x y n m r is none =
    subst (λ (q : Option ShownFrame). MatchOption q ((x.is_done ≡ true) × (y ≡ x) × (m ≡ n)) (λ g. ShowsNext x.source.limits (bytes_in x.source) (image_in x.source) (state_of x) g (state_of y) n m)) is none

-- the same, upright
pub shows_picture : (x y : FrameDecoder) (n m : ℕ) (f : ShownFrame) (p : Picture) → y.source ≡ x.source →
    ShowsNext x.source.limits (bytes_in x.source) (image_in x.source) (state_of x) f (state_of y) n m → IsUpright (image_in y.source) f.channels.items (image_of p.header) p.channels.items →
    bytes_if p.profile ≡ bytes_if y.source.profile → ShowsPicture x (record { duration = f.duration; timecode = f.timecode; picture = p }) y n m
shows_picture x y n m f p source shows upright profile = record {
  frame = f;
  shows = shows;
  upright = subst (λ (s : Source). IsUpright (image_in s) f.channels.items (image_of p.header) p.channels.items) source upright;
  profile = profile ∙ ap (λ (s : Source). bytes_if s.profile) source;
  duration = refl;
  timecode = refl;
}

-- of a file: none of its pictures was shown yet
pub none_shown : (limits : Limits) (file : List ℕ) (x : FrameDecoder) → IsDecoderOf limits file x → HasShown limits file 0 0 x
none_shown limits file x is = record {
  start = x.start;
  found = is.found;
  opens = is.opens;
  limits_are = is.limits_are;
  shows = subst (λ (s : State). ShowsFrames limits (bytes_in x.source) (image_in x.source) (first_state x.start) 0 0 s 0) (sym is.first) NoPicture;
}

-- after this number of its pictures decoder x goes on to y
module _ (limits : Limits) (file : List ℕ) (number n m : ℕ) (x y : FrameDecoder) (has : HasShown limits file number n x) where
  next_by : (f : ShownFrame) → ShowsNext x.source.limits (bytes_in x.source) (image_in x.source) (state_of x) f (state_of y) n m → ShowsNext limits (bytes_in x.source) (image_in x.source) (state_of x) f (state_of y) n m
  next_by f shows = subst (λ (l : Limits). ShowsNext l (bytes_in x.source) (image_in x.source) (state_of x) f (state_of y) n m) has.limits_are shows

  pub shown_more : (f : ShownFrame) → y.source ≡ x.source → ShowsNext x.source.limits (bytes_in x.source) (image_in x.source) (state_of x) f (state_of y) n m → HasShown limits file (number + 1) m y
  shown_more f source shows = record {
    start = has.start;
    found = subst (λ (s : Source). HasCodestream file (Ok (bytes_in s))) (sym source) has.found;
    opens = subst (λ (s : Source). Opens limits (bytes_in s) (image_in s) (bytes_if s.profile) has.start) (sym source) has.opens;
    limits_are = ap (λ (s : Source). s.limits) source ∙ has.limits_are;
    shows = subst (λ (s : Source). ShowsFrames limits (bytes_in s) (image_in s) (first_state has.start) 0 (number + 1) (state_of y) m) (sym source)
        (NextPicture number (state_of x) n f (state_of y) m has.shows (next_by f shows));
  }

  pub shown_of_file : (p : ShownPicture) → ShowsPicture x p y n m → IsShownOfFile limits file number p
  shown_of_file p shows = record {
    frame = record {
      bytes = bytes_in x.source;
      image = image_in x.source;
      start = has.start;
      begin = record { found = has.found; opens = subst (λ (icc : Option (List ℕ)). Opens limits (bytes_in x.source) (image_in x.source) icc has.start) (sym shows.profile) has.opens };
      shown = shows.frame;
      after = state_of y;
      steps = m;
      shows = record { middle = state_of x; steps = n; before = has.shows; next = next_by shows.frame shows.shows };
      upright = shows.upright;
    };
    duration = shows.duration;
    timecode = shows.timecode;
  }

  pub none_of_file : x.is_done ≡ true → HasFewerFrames limits file number
  none_of_file done = record {
    bytes = bytes_in x.source;
    image = image_in x.source;
    icc = bytes_if x.source.profile;
    start = has.start;
    begin = record { found = has.found; opens = has.opens };
    after = state_of x;
    steps = n;
    ends = record { count = number; few = omega arith; shows = has.shows; ended = done };
  }

  failed : (e : AnimationError) (t : State) → FailsBy limits (bytes_in x.source) (image_in x.source) (first_state has.start) number t 0 e → FrameOfFileFails limits file number e
  failed e t fails = inr (record {
    bytes = bytes_in x.source;
    image = image_in x.source;
    icc = bytes_if x.source.profile;
    start = has.start;
    begin = record { found = has.found; opens = has.opens };
    after = t;
    fails = fails;
  })

  pub fails_of_file : (e : AnimationError) → PictureFails x y n m e → FrameOfFileFails limits file number e
  fails_of_file e (inl fails) = failed e (state_of y) (record {
    count = number;
    few = omega arith;
    middle = state_of x;
    steps = n;
    shows = has.shows;
    fails = subst (λ (l : Limits). FailsAfter l (bytes_in x.source) (image_in x.source) (state_of x) (state_of y) n e) has.limits_are fails;
  })
  fails_of_file e (inr passed) = subst (λ (f : AnimationError). FrameOfFileFails limits file number f) (sym passed.2) (failed (errors.File files.OutOfMemory) (first_state has.start) (record {
    count = 0;
    few = omega arith;
    middle = first_state has.start;
    steps = 0;
    shows = NoPicture;
    fails = record { hidden = []; steps = 0; passes = NoFrame; going = refl; fails = tt };
  }))
