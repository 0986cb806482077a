-- The pictures of a file, one after another.
use Rattle.std.proofs.Common.{◌≡◌, ℕ, ◌+◌, List, [], ◌∷◌, ◌++◌, length, append_assoc, ap, refl, sym, subst, ◌∙◌, true, Option, Some, None, Result, Ok, Err, string_bytes}
use Rattle.std.proofs.lemmas.List.{append-nil, length-append}
use Rattle.std.specs.Option.{option_copied}
use Rattle.std.specs.Prelude.{MatchOption, String}
use Rattle.std.specs.declared.alloc.Global.{Global}
use Rattle.jxl_animation.specs.Decoders.{HasShown, IsReadyDecoder}
use Rattle.jxl_animation.specs.Files.{HasFewerFrames, IsFrameOfFile}
use Rattle.jxl_animation.specs.declared.frames.FrameDecoder.{FrameDecoder}
use Rattle.jxl_codestream.specs.FrontParts.{bytes_if}
use Rattle.jxl_frame_names.specs.Names.{name_of}
use Rattle.jxl_frame_names.specs.declared.pattern.NamePattern.{NamePattern}
use Rattle.jxl_image_header.specs.Images.{image_of}
use Rattle.jxl_picture.specs.declared.limits.Limits.{Limits}
use Rattle.jxl_picture.specs.declared.picture.Picture.{Picture}
use Rattle.jxldec_lines.specs.Failures.{IsOfContent}
use Rattle.jxldec_lines.specs.Formats.{IsWrittenAs}
use Rattle.jxldec_lines.specs.declared.failures.Failure.{Failure}
use Rattle.jxldec_lines.specs.declared.failures.Failure.TheVariants as failures
use Rattle.jxldec_lines.specs.declared.format.OutputFormat.{OutputFormat}
use Rattle.jxldec_lines.specs.declared.loss.Loss.{Loss}
use Rattle.jxldec_lines.specs.declared.loss.Loss.TheVariants.{Nothing}
use Rattle.jxldec.specs.Frames.{AddsAllPages, ArePages, FailsAt, IsOfPage, PageFails, AddsPagesBefore}
use Rattle.jxldec.specs.Frames.{NextPage, NoPage}
use Rattle.jxldec.specs.Inner.Failures.{page_failure}
use Rattle.jxldec.specs.Pages.{AppendsPages, Page, page_of}
use Rattle.jxldec.specs.Choices.{IsWrittenIn}
use Rattle.jxldec.specs.Texts.{FrameTextFails, IsBeside, IsTextOf, IsTextOfFrame}
use Rattle.jxldec.specs.declared.content.Beside.{Beside}
use Rattle.jxldec.specs.declared.frames.At.{At}
use Rattle.jxldec.specs.declared.frames.At.TheVariants as places
use Rattle.jxldec.specs.declared.frames.FramesFailure.{FramesFailure}

-- nothing more is written
pub no_page : (old : Option (List Page)) → AppendsPages old old []
no_page None = tt
no_page (Some before) = sym (append-nil before)

-- one page more
pub one_page : (old mid new : Option (List Page)) (pages : List Page) (page : Page) → AppendsPages old mid pages → AppendsPages mid new (page ∷ []) → AppendsPages old new (pages ++ page ∷ [])
one_page None mid new pages page h k = tt
one_page (Some before) None new pages page h k = absurd h
one_page (Some before) (Some now) None pages page h k = absurd k
one_page (Some before) (Some now) (Some after) pages page h k = k ∙ ap (λ (xs : List Page). xs ++ page ∷ []) h ∙ append_assoc before pages (page ∷ [])

-- none more
pub none_more : (old mid new : Option (List Page)) (pages : List Page) → AppendsPages old mid pages → AppendsPages mid new [] → AppendsPages old new pages
none_more None mid new pages h k = tt
none_more (Some before) None new pages h k = absurd h
none_more (Some before) (Some now) None pages h k = absurd k
none_more (Some before) (Some now) (Some after) pages h k = k ∙ append-nil now ∙ h

-- what is written of a picture of a file that has this beside it
pub text_so : (file : List ℕ) (asked : Option OutputFormat) (format : OutputFormat) (others : List ℕ) (loss : Loss) (beside : Beside) (picture : Picture) (text : List ℕ) →
    IsBeside file beside → IsWrittenIn asked format others loss (image_of picture.header) →
    IsWrittenAs format (image_of picture.header) picture.channels.items (bytes_if picture.profile) (option_copied beside.exif) (option_copied beside.xmp) text →
    IsTextOf file picture asked text others loss
text_so file asked format others loss beside picture text has is written = record {
  exif = option_copied beside.exif;
  exif_is = has.exif;
  xmp = option_copied beside.xmp;
  xmp_is = has.xmp;
  format = format;
  suited = is.suited;
  written = written;
  without = is.without;
  meant = is.meant;
}

module _ (limits : Limits) (file : List ℕ) (asked : Option OutputFormat) (pattern : NamePattern) (others : List ℕ) (loss : Loss) (old : Option (List Page)) where
  -- After this number of pictures: they are written, and the decoder comes to the next.
  pub record StandsAt (new : Option (List Page)) (number steps : ℕ) (decoder : FrameDecoder) : Type 0 where
    pub shown : HasShown limits file number steps decoder
    pub ready : IsReadyDecoder decoder
    pub pages : List Page
    pub are : ArePages limits file asked pattern others loss pages
    pub count : length pages ≡ number
    pub appended : AppendsPages old new pages

  module _ (mid : Option (List Page)) (number steps : ℕ) (decoder : FrameDecoder) (at : StandsAt mid number steps decoder) where
    -- one more is written
    pub goes_on : (new : Option (List Page)) (steps' : ℕ) (decoder' : FrameDecoder) (picture : Picture) (text : List ℕ) → HasShown limits file (number + 1) steps' decoder' → IsReadyDecoder decoder' →
        IsFrameOfFile limits file number picture → IsTextOf file picture asked text others loss → AppendsPages mid new (page_of (name_of pattern number) text ∷ []) → StandsAt new (number + 1) steps' decoder'
    goes_on new steps' decoder' picture text shown ready is written appended = record {
      shown = shown;
      ready = ready;
      pages = at.pages ++ page_of (name_of pattern number) text ∷ [];
      are = NextPage at.pages (page_of (name_of pattern number) text) at.are (ap (λ (n : ℕ). name_of pattern n) (sym at.count))
          (subst (λ (n : ℕ). IsTextOfFrame limits file n asked text others loss) (sym at.count) (record { picture = picture; is = is; written = written }));
      count = length-append at.pages (page_of (name_of pattern number) text ∷ []) ∙ ap (λ (n : ℕ). n + 1) at.count;
      appended = one_page old mid new at.pages (page_of (name_of pattern number) text) at.appended appended;
    }

    -- all are written
    pub all_written : HasFewerFrames limits file number → AddsAllPages limits file asked pattern old mid others loss
    all_written fewer = record { pages = at.pages; are = at.are; all = subst (λ (n : ℕ). HasFewerFrames limits file n) (sym at.count) fewer; appended = at.appended }

    -- the next picture fails
    pub frame_fails : (failure : Failure) → FrameTextFails limits file number asked failure → (f : FramesFailure) → f ≡ record { at = places.Frame number; failure = failure } → AddsPagesBefore limits file asked pattern old mid f
    frame_fails failure why f e = subst (λ (x : FramesFailure). AddsPagesBefore limits file asked pattern old mid x) (sym e)
        (record { pages = at.pages; others = others; loss = loss; are = at.are; fails = (sym at.count, why); appended = at.appended })

    -- its output fails
    pub page_fails : (new : Option (List Page)) (f : FramesFailure) → AppendsPages mid new [] → PageFails pattern number f → AddsPagesBefore limits file asked pattern old new f
    page_fails new f kept why = record { pages = at.pages; others = others; loss = loss; are = at.are; fails = by f.at f.failure why; appended = none_more old mid new at.pages at.appended kept } where
      by : (place : At) (failure : Failure) → IsOfPage pattern number place failure → FailsAt limits file asked pattern (length at.pages) place failure
      by places.File failure h = absurd h
      by (places.Frame n) failure h = (h.0 ∙ sym at.count, subst (λ (e : Failure). FrameTextFails limits file n asked e) (sym h.1) tt)
      by (places.Output name) failure h = (h.0 ∙ ap (λ (n : ℕ). name_of pattern n) (sym at.count), h.1)

-- the file fails before its pictures
pub file_fails : (limits : Limits) (file : List ℕ) (asked : Option OutputFormat) (pattern : NamePattern) (old : Option (List Page)) (failure : Failure) → FrameTextFails limits file 0 asked failure →
    (f : FramesFailure) → f ≡ record { at = places.File; failure = failure } → AddsPagesBefore limits file asked pattern old old f
file_fails limits file asked pattern old failure why f e = subst (λ (x : FramesFailure). AddsPagesBefore limits file asked pattern old old x) (sym e)
    (record { pages = []; others = []; loss = Nothing; are = NoPage; fails = (refl, why); appended = no_page old })

-- an output fails, or it is out of memory for it
pub page_so : (pattern : NamePattern) (number : ℕ) (name : String Global) (failure : Failure) → IsOfContent failure → string_bytes name ≡ name_of pattern number → PageFails pattern number (page_failure number name failure)
page_so pattern number name failures.OutOfMemory of e = (refl, refl)
page_so pattern number name (failures.Unwritable x) of e = (e, of)
page_so pattern number name failures.Closed of e = (e, of)
page_so pattern number name (failures.Unreadable x) of e = absurd of
page_so pattern number name (failures.File x) of e = absurd of
page_so pattern number name (failures.TooLarge size extra most) of e = absurd of
page_so pattern number name (failures.Frames x) of e = absurd of
page_so pattern number name (failures.NoFrame n) of e = absurd of
page_so pattern number name failures.NoFormat of e = absurd of
page_so pattern number name (failures.Missing x) of e = absurd of
page_so pattern number name failures.Ending of e = absurd of
page_so pattern number name failures.Foreign of e = absurd of
page_so pattern number name (failures.Unsaved x y) of e = absurd of

-- a picture that comes next, or none
pub some_if : {X : Type 0} (A : Type 0) (B : X → Type 0) (r : Option X) (p : X) → r ≡ Some p → MatchOption r A B → B p
some_if A B r p is found = subst (λ o. MatchOption o A B) is found

pub none_if : {X : Type 0} (A : Type 0) (B : X → Type 0) (r : Option X) → r ≡ None → MatchOption r A B → A
none_if A B r is found = subst (λ o. MatchOption o A B) is found
