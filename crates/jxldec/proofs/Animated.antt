-- An APNG file that is written picture by picture, and what its failures say.
use Rattle.std.proofs.Common.{◌≡◌, ◌∙◌, ◌<◌, ap, Bool, true, false, ◌+◌, ◌⊎◌, ℕ, List, [], ◌∷◌, ◌++◌, length, arith, inl, inr, min, refl, subst, sym, Option, Some, None, Result, Ok, Err}
use Rattle.std.proofs.lemmas.List.{length-append}
use Rattle.std.specs.Prelude.{IfErr, IfOk, if◌then◌else◌, string_bytes}
use Rattle.std.specs.Option.{option_copied}
use Rattle.jxl_animation.specs.Decoders.{HasShown, IsReadyDecoder}
use Rattle.jxl_animation.specs.Files.{HasFewerFrames, IsFrameOfFile, IsShownOfFile}
use Rattle.jxl_animation.specs.declared.frames.FrameDecoder.{FrameDecoder}
use Rattle.jxl_animation.specs.declared.frames.ShownPicture.{ShownPicture}
use Rattle.jxl_apng_write.specs.Animations.{Frame, IsApngFileOf, frame_of}
use Rattle.jxl_apng_write.specs.Delays.{IsDelayOf}
use Rattle.jxl_apng_write.specs.Writers.{IsWriterOf}
use Rattle.jxl_apng_write.specs.declared.delay.Delay.{Delay}
use Rattle.jxl_apng_write.specs.declared.writer.ApngWriter.{ApngWriter}
use Rattle.jxl_image_header.specs.Images.{Image, image_of}
use Rattle.jxl_image_header.specs.declared.image.Animation.{Animation}
use Rattle.jxl_picture.specs.declared.limits.Limits.{Limits}
use Rattle.jxl_picture.specs.declared.picture.Picture.{Picture}
use Rattle.jxl_png_metadata.specs.Data.{items_if}
use Rattle.jxl_png_metadata.specs.Texts.{unless_empty}
use Rattle.jxl_png_write.specs.Headers.{suits_png}
use Rattle.jxldec.specs.Animations.{AreLater, IsApngText, IsFrameOf}
use Rattle.jxldec.specs.Animations.{NextFrame, NoFrame}
use Rattle.jxldec.specs.Choices.{IsWrittenIn}
use Rattle.jxldec.specs.Contents.{content_text}
use Rattle.jxldec.specs.Inner.Animated.{BeginsWith, GoesOnWith}
use Rattle.jxldec.specs.Texts.{AnimationFails, CountsFrames, FrameTextFails, HasLayers, IsAnimationText, IsBeside, IsFirstPng, IsTextOfFrame, LayersFail}
use Rattle.jxldec.specs.declared.content.Beside.{Beside}
use Rattle.jxldec.specs.declared.content.Output.{Output}
use Rattle.jxldec_lines.specs.Warnings.{one_frame}
use Rattle.jxldec_lines.specs.declared.failures.Failure.{Failure}
use Rattle.jxldec_lines.specs.declared.failures.Failure.TheVariants as failures
use Rattle.jxldec_lines.proofs.Chosen.{chosen_suits}
use Rattle.jxldec_lines.specs.Formats.{chosen, suits_output}
use Rattle.jxldec_lines.specs.declared.format.OutputFormat.{OutputFormat}
use Rattle.jxldec_lines.specs.declared.format.OutputFormat.TheVariants.{Png}
use Rattle.jxldec_lines.specs.declared.loss.Loss.{Loss}

module _ (limits : Limits) (file : List ℕ) where
  -- what is wrong before the first picture, or with it, is a failure of the animation
  pub layers_fail : (failure : Failure) → FrameTextFails limits file 0 (Some Png) failure → LayersFail limits file failure
  layers_fail (failures.Frames e) h = (0, h)
  layers_fail (failures.NoFrame n) h = (subst (λ (k : ℕ). HasFewerFrames limits file k) (sym h.0) h.1, inl h.0)
  layers_fail failures.NoFormat h = h
  layers_fail (failures.File e) h = h
  layers_fail (failures.TooLarge size extra most) h = h
  layers_fail failures.OutOfMemory h = h
  layers_fail (failures.Missing extra) h = absurd h
  layers_fail (failures.Unreadable e) h = absurd h
  layers_fail failures.Ending h = absurd h
  layers_fail failures.Foreign h = absurd h
  layers_fail (failures.Unwritable e) h = absurd h
  layers_fail failures.Closed h = absurd h
  layers_fail (failures.Unsaved extra e) h = absurd h

  -- so is it to be out of memory
  pub memory_fails : (failure : Failure) → failure ≡ failures.OutOfMemory → LayersFail limits file failure
  memory_fails failure e = subst (λ (f : Failure). LayersFail limits file f) (sym e) tt

  -- the first picture of a file whose pictures have this header, which is of no animation
  pub first_png : (image : Image) → ((number : ℕ) (picture : Picture) → IsFrameOfFile limits file number picture → image_of picture.header ≡ image) → image.animation ≡ None → (r : Result Output Failure) →
      IfOk r (λ o. IsTextOfFrame limits file 0 (Some Png) (content_text o.content) (string_bytes o.left_out.channels) o.left_out.loss) → IfOk r (λ o. CountsFrames limits file o.left_out.frames) →
      IfOk r (λ o. (IsApngText limits file (content_text o.content) (string_bytes o.left_out.channels) o.left_out.loss × (o.left_out.frames ≡ one_frame)) ⊎ IsFirstPng limits file (content_text o.content) (string_bytes o.left_out.channels) o.left_out.loss o.left_out.frames)
  first_png image same still (Ok o) text counts = inr (record { picture = text; still = ap (λ (i : Image). i.animation) (same 0 text.picture text.is) ∙ still; counts = counts })
  first_png image same still (Err e) text counts = tt

  -- an animation
  pub apng_made : (r : Result Output Failure) → IfOk r (λ o. IsApngText limits file (content_text o.content) (string_bytes o.left_out.channels) o.left_out.loss) → IfOk r (λ o. o.left_out.frames ≡ one_frame) →
      IfOk r (λ o. (IsApngText limits file (content_text o.content) (string_bytes o.left_out.channels) o.left_out.loss × (o.left_out.frames ≡ one_frame)) ⊎ IsFirstPng limits file (content_text o.content) (string_bytes o.left_out.channels) o.left_out.loss o.left_out.frames)
  apng_made (Ok o) text frames = inl (text, frames)
  apng_made (Err e) text frames = tt

  -- a failure of the first picture
  pub first_fails : (r : Result Output Failure) → IfErr r (FrameTextFails limits file 0 (Some Png)) → IfErr r (LayersFail limits file)
  first_fails (Ok o) h = tt
  first_fails (Err e) h = layers_fail e h

  -- a file that has no still picture has this animation, or picture; or it fails so
  module _ (has : HasLayers limits file) where
    pub layers_text : (r : Result Output Failure) →
        IfOk r (λ o. (IsApngText limits file (content_text o.content) (string_bytes o.left_out.channels) o.left_out.loss × (o.left_out.frames ≡ one_frame)) ⊎ IsFirstPng limits file (content_text o.content) (string_bytes o.left_out.channels) o.left_out.loss o.left_out.frames) →
        IfOk r (λ o. IsAnimationText limits file (content_text o.content) (string_bytes o.left_out.channels) o.left_out.loss o.left_out.frames)
    layers_text (Ok o) h = inr (has, h)
    layers_text (Err e) h = tt

    pub no_animation : (r : Result Output Failure) → IfErr r (LayersFail limits file) → IfErr r (AnimationFails limits file)
    no_animation (Ok o) h = tt
    no_animation (Err e) h = inr (has, h)

module _ (limits : Limits) (file : List ℕ) (a : Animation) (profile exif xmp : Option (List ℕ)) (plays count : ℕ) (first : Frame) where
  -- After this number of pictures: they are written, and the decoder comes to the next.
  pub record StandsAt (number steps : ℕ) (decoder : FrameDecoder) (w : ApngWriter) : Type 0 where
    pub shown : HasShown limits file number steps decoder
    pub ready : IsReadyDecoder decoder
    pub later : List Frame
    pub are : AreLater limits file a later
    pub number_is : number ≡ 1 + length later
    pub writes : IsWriterOf profile exif xmp plays first later w
    pub room : w.count ≡ count

  -- the first one is written
  pub begins : (steps : ℕ) (decoder : FrameDecoder) (w : ApngWriter) → HasShown limits file 1 steps decoder → IsReadyDecoder decoder → IsWriterOf profile exif xmp plays first [] w → w.count ≡ count →
      StandsAt 1 steps decoder w
  begins steps decoder w shown ready writes room = record { shown = shown; ready = ready; later = []; are = NoFrame; number_is = refl; writes = writes; room = room }

  module _ (number steps : ℕ) (decoder : FrameDecoder) (w : ApngWriter) (at : StandsAt number steps decoder w) where
    -- one more is written
    pub goes_on : (steps' : ℕ) (decoder' : FrameDecoder) (w' : ApngWriter) (p : ShownPicture) → HasShown limits file (number + 1) steps' decoder' → IsReadyDecoder decoder' → IsShownOfFile limits file number p →
        (image_of p.picture.header).animation ≡ Some a → GoesOnWith a profile exif xmp plays first at.later p w' → w'.count ≡ w.count → StandsAt (number + 1) steps' decoder' w'
    goes_on steps' decoder' w' p shown ready is moving goes same =
        let long = length-append at.later (frame_of p.picture goes.delay ∷ []) in
        record {
          shown = shown;
          ready = ready;
          later = at.later ++ frame_of p.picture goes.delay ∷ [];
          are = NextFrame at.later (frame_of p.picture goes.delay) at.are (record {
            shown = p;
            is = subst (λ (n : ℕ). IsShownOfFile limits file n p) at.number_is is;
            moving = moving;
            delay = goes.delay;
            delay_is = goes.delay_is;
            frame_is = refl;
          });
          number_is = omega (arith, at.number_is, long);
          writes = goes.is;
          room = same ∙ at.room;
        }

    -- there is room for the next
    pub has_room : number < count → w.done < w.count
    has_room less = let done = at.writes.done in let room = at.room in let is = at.number_is in omega (arith, less, done, room, is)

    -- all are written
    pub is_full : number ≡ count → w.done ≡ w.count
    is_full e = let done = at.writes.done in let room = at.room in let is = at.number_is in omega (arith, e, done, room, is)

-- After this number of pictures of an animation, the first of which is this, with what is beside it.
pub record StandsFrom (limits : Limits) (file : List ℕ) (a : Animation) (beside : Beside) (plays count : ℕ) (p : ShownPicture) (number steps : ℕ) (decoder : FrameDecoder) (w : ApngWriter) : Type 0 where
  pub delay : Delay
  pub delay_is : IsDelayOf a p.duration delay
  pub at : StandsAt limits file a (unless_empty (items_if p.picture.profile)) (option_copied beside.exif) (option_copied beside.xmp) plays count (frame_of p.picture delay) number steps decoder w

module _ (limits : Limits) (file : List ℕ) (a : Animation) (beside : Beside) (plays count : ℕ) (p : ShownPicture) where
  -- the first picture is written
  pub stands_first : (steps : ℕ) (decoder : FrameDecoder) (w : ApngWriter) → HasShown limits file 1 steps decoder → IsReadyDecoder decoder → BeginsWith a beside plays p w → w.count ≡ count →
      StandsFrom limits file a beside plays count p 1 steps decoder w
  stands_first steps decoder w shown ready begin room = record {
    delay = begin.delay;
    delay_is = begin.delay_is;
    at = begins limits file a (unless_empty (items_if p.picture.profile)) (option_copied beside.exif) (option_copied beside.xmp) plays count (frame_of p.picture begin.delay) steps decoder w shown ready begin.is room;
  }

  module _ (number steps : ℕ) (decoder : FrameDecoder) (w : ApngWriter) (from : StandsFrom limits file a beside plays count p number steps decoder w) where
    -- one more is written
    pub stands_next : (steps' : ℕ) (decoder' : FrameDecoder) (w' : ApngWriter) (q : ShownPicture) → HasShown limits file (number + 1) steps' decoder' → IsReadyDecoder decoder' → IsShownOfFile limits file number q →
        (image_of q.picture.header).animation ≡ Some a →
        GoesOnWith a (unless_empty (items_if p.picture.profile)) (option_copied beside.exif) (option_copied beside.xmp) plays (frame_of p.picture from.delay) from.at.later q w' → w'.count ≡ w.count →
        StandsFrom limits file a beside plays count p (number + 1) steps' decoder' w'
    stands_next steps' decoder' w' q shown ready is moving goes same = record {
      delay = from.delay;
      delay_is = from.delay_is;
      at = goes_on limits file a (unless_empty (items_if p.picture.profile)) (option_copied beside.exif) (option_copied beside.xmp) plays count (frame_of p.picture from.delay) number steps decoder w from.at
          steps' decoder' w' q shown ready is moving goes same;
    }

    -- the file has all pictures
    pub apng_text : (others text : List ℕ) (loss : Loss) → IsShownOfFile limits file 0 p → (image_of p.picture.header).animation ≡ Some a → HasFewerFrames limits file number → IsBeside file beside →
        IsWrittenIn (Some Png) Png others loss (image_of p.picture.header) → plays ≡ min a.num_loops 0x7FFFFFFF →
        IsApngFileOf (unless_empty (items_if p.picture.profile)) (option_copied beside.exif) (option_copied beside.xmp) plays (frame_of p.picture from.delay) from.at.later text → IsApngText limits file text others loss
    apng_text others text loss is moving fewer has written played made = record {
      animation = a;
      first = frame_of p.picture from.delay;
      later = from.at.later;
      first_is = record { shown = p; is = is; moving = moving; delay = from.delay; delay_is = from.delay_is; frame_is = refl };
      later_are = from.at.are;
      all = subst (λ (n : ℕ). HasFewerFrames limits file n) from.at.number_is fewer;
      exif = option_copied beside.exif;
      exif_is = has.exif;
      xmp = option_copied beside.xmp;
      xmp_is = has.xmp;
      written = written;
      is = subst (λ (n : ℕ). IsApngFileOf (unless_empty (items_if p.picture.profile)) (option_copied beside.exif) (option_copied beside.xmp) n (frame_of p.picture from.delay) from.at.later text) played made;
    }

-- the format that is chosen is PNG, where that is asked for
png_chosen : (image : Image) (format : OutputFormat) → chosen (Some Png) image ≡ Some format → Png ≡ format
png_chosen image format e = by (suits_output Png image) e where
  by : (b : Bool) → (if b then Some Png else None) ≡ Some format → Png ≡ format
  by true e = cc
  by false e = let bad : ⊥ = cc in absurd bad

-- so a picture with the same header is written, and suits it
module _ (others : List ℕ) (loss : Loss) (format : OutputFormat) (image other : Image) (same : other ≡ image) (written : IsWrittenIn (Some Png) format others loss image) where
  pub png_written : IsWrittenIn (Some Png) Png others loss other
  png_written = subst (λ (i : Image). IsWrittenIn (Some Png) Png others loss i) (sym same)
      (subst (λ (f : OutputFormat). IsWrittenIn (Some Png) f others loss image) (sym (png_chosen image format written.suited)) written)

  pub png_suits : suits_png other ≡ true
  png_suits = chosen_suits (Some Png) other Png png_written.suited
