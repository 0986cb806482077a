-- What a file that was read up to the sections of its frames says of its picture.
use Rattle.std.proofs.Common.{◌≡◌, ap, if◌then◌else◌, ℕ, List, length, true, false, Bool, Option, Result, Ok, Err, Some, None, refl, sym, subst, ◌∙◌}
use Rattle.std.specs.Prelude.{◌&&◌, IfOk, IfSome, MatchOption, MatchResult, string_bytes}
use Rattle.std.specs.Option.{option_map}
use Rattle.jxlm_bits.specs.Decoding.{Found}
use Rattle.jxlm_bits.specs.ErrorKind.{ErrorAt}
use Rattle.jxl_animation.specs.Files.{HasFewerFrames, IsFrameOfFile}
use Rattle.jxl_coding.specs.Parse.{decoder_at}
use Rattle.jxl_coding.specs.Tokens.{entropy}
use Rattle.jxl_container.specs.Files.{stream_of}
use Rattle.jxl_container.proofs.FileLaws.{one_codestream}
use Rattle.jxl_container.specs.declared.error.FileError.{FileError as BoxError}
use Rattle.jxl_image_header.specs.Images.{Image, image_header, image_of}
use Rattle.jxl_image_header.specs.declared.image.ImageHeader.{ImageHeader}
use Rattle.jxl_codestream.specs.Fronts.{FrontFails, StandsAt}
use Rattle.jxl_codestream.specs.FrontParts.{AreFramesOf}
use Rattle.jxl_codestream.specs.declared.error.FrontError.{FrontError}
use Rattle.jxl_codestream.specs.declared.error.FrontError.TheVariants as fronts
use Rattle.jxl_codestream.specs.declared.front.Frames.{Frames}
use Rattle.jxl_info.specs.Headers.{HeadersOfFile, IsReason, IsSupported}
use Rattle.jxl_info.specs.Reasons.{is_refusal}
use Rattle.jxl_lossless.specs.Files.{IsReadOf, error_of, header_of, is_before_frames, reason_of, upright}
use Rattle.jxl_lossless.specs.Pictures.{FileFails, IsPictureOfFile}
use Rattle.jxl_lossless.specs.declared.error.FileError.{FileError}
use Rattle.jxl_lossless.specs.declared.error.FileError.TheVariants as files
use Rattle.jxl_lossless.specs.declared.file.JxlFile.{JxlFile}
use Rattle.jxl_netpbm.specs.Formats.{suits, usual, usual_whole}
use Rattle.jxl_netpbm.specs.declared.format.Format.{Format}
use Rattle.jxl_netpbm.specs.declared.format.Format.TheVariants.{Pgm, Ppm, Pam, Pfm, Text}
use Rattle.jxl_picture.specs.Orientations.{is_turned}
use Rattle.jxl_picture.specs.Pictures.{IsWhole}
use Rattle.jxl_picture.specs.declared.limits.Limits.{Limits}
use Rattle.jxl_picture.specs.declared.picture.Picture.{Picture}
use Rattle.jxl_png_write.specs.Headers.{alpha_of, alpha_suits, is_side, is_whole, suits_png}
use Rattle.jxldec.specs.Contents.{content_text}
use Rattle.jxldec_lines.specs.Formats.{chosen, suits_output}
use Rattle.jxldec.specs.Layers.{has_frames, is_layers_error, is_of_layers, lists_frames}
use Rattle.jxldec.specs.Texts.{FramesHaveNoFormat, HasNoFormat, IsAboveLimits, IsTextOf, IsTextOfFile, IsTextOfFrame}
use Rattle.jxldec_lines.specs.declared.failures.Failure.{Failure}
use Rattle.jxldec_lines.specs.declared.failures.Failure.TheVariants as failures
use Rattle.jxldec_lines.specs.declared.format.OutputFormat.{OutputFormat}
use Rattle.jxldec_lines.specs.declared.format.OutputFormat.TheVariants.{Netpbm, Png}
use Rattle.jxldec.specs.declared.content.Output.{Output}

module _ (limits : Limits) (bytes : List ℕ) (header : ImageHeader) where
  supported : (frames : Result Frames FrontError) → MatchResult frames (AreFramesOf (entropy decoder_at) limits bytes header) (FrontFails (entropy decoder_at) limits bytes) →
      error_of frames ≡ None → IsSupported (entropy decoder_at) limits bytes (image_of header)
  supported (Ok frames) h e = record { saved = _; shown = _; stands = h.stand }
  supported (Err error) h e = let bad : ⊥ = cc in absurd bad

  refused : (frames : Result Frames FrontError) → MatchResult frames (AreFramesOf (entropy decoder_at) limits bytes header) (FrontFails (entropy decoder_at) limits bytes) →
      (reason : FrontError) → error_of frames ≡ Some reason → FrontFails (entropy decoder_at) limits bytes reason
  refused (Ok frames) h reason e = let bad : ⊥ = cc in absurd bad
  refused (Err error) h reason e = let same : error ≡ reason = cc in subst (λ (r : FrontError). FrontFails (entropy decoder_at) limits bytes r) same h

-- that a file has layers is a refusal
layers_refused : (e : FrontError) → is_of_layers e ≡ true → is_refusal e ≡ true
layers_refused (fronts.Image reason) e = refl
layers_refused (fronts.Frame reason) e = refl
layers_refused fronts.TooLarge e = refl
layers_refused fronts.FramesTooLarge e = refl
layers_refused fronts.TooManySections e = refl
layers_refused (fronts.TruncatedSection number) e = refl
layers_refused fronts.TooLong e = e
layers_refused (fronts.ImageHeader error) e = e
layers_refused (fronts.Profile error) e = e
layers_refused (fronts.FrameHeader error) e = e
layers_refused (fronts.Contents error) e = e

same_bytes : (b c : List ℕ) → ◌≡◌ {A = Result (List ℕ) BoxError} (Ok b) (Ok c) → b ≡ c
same_bytes b c e = cc

same_found : {X : Type 0} (r : Result (Found X) ErrorAt) (a b : Found X) → r ≡ Ok a → r ≡ Ok b → a ≡ b
same_found r a b h k = cc

-- one image header is at the start
one_image : (bytes : List ℕ) (image other : Image) (p q : ℕ) → StandsAt image_header bytes 0 image p → StandsAt image_header bytes 0 other q → image ≡ other
one_image bytes image other p q h k = ap (λ (f : Found Image). f.value) (same_found (image_header.read bytes 0) _ _ h k)

module _ (limits : Limits) (file : List ℕ) (read : JxlFile) (is : IsReadOf limits file read) where
  -- its headers, and why it is not decoded
  headers : (reason : Option FrontError) → IsReason (entropy decoder_at) limits (stream_of read.stream) (image_of (header_of read)) reason → HeadersOfFile (entropy decoder_at) limits file (image_of (header_of read)) reason
  headers reason why = record {
    bytes = stream_of read.stream;
    codestream = is.found;
    stand = record { end = is.front.end; header = is.front.header; is = why };
  }

  -- it is supported, and has no format
  pub no_format : (asked : Option OutputFormat) → reason_of read ≡ None → chosen asked (image_of (header_of read)) ≡ None → HasNoFormat limits file asked
  no_format asked reason none = record {
    image = image_of (header_of read);
    headers = headers None (supported limits (stream_of read.stream) (header_of read) read.front.frames is.front.frames reason);
    none = none;
  }

  -- its frames may be decoded, and have no format
  pub frames_no_format : (asked : Option OutputFormat) (reason : Option FrontError) → reason_of read ≡ reason → has_frames reason ≡ true → chosen asked (image_of (header_of read)) ≡ None → FramesHaveNoFormat limits file asked
  frames_no_format asked None why lifted none = record {
    image = image_of (header_of read);
    reason = None;
    headers = headers None (supported limits (stream_of read.stream) (header_of read) read.front.frames is.front.frames why);
    lifted = refl;
    none = none;
  }
  frames_no_format asked (Some e) why lifted none = record {
    image = image_of (header_of read);
    reason = Some e;
    headers = headers (Some e) (layers_refused e lifted, refused limits (stream_of read.stream) (header_of read) read.front.frames is.front.frames e why);
    lifted = lifted;
    none = none;
  }

  -- the image header is the one of its frames
  pub frames_image : (number : ℕ) (picture : Picture) (frame : IsFrameOfFile limits file number picture) → image_of (header_of read) ≡ frame.image
  frames_image number picture frame =
      let bytes : stream_of read.stream ≡ frame.bytes = same_bytes (stream_of read.stream) frame.bytes (one_codestream file (Ok (stream_of read.stream)) (Ok frame.bytes) is.found frame.begin.found) in
      one_image (stream_of read.stream) (image_of (header_of read)) frame.image is.front.end frame.begin.opens.end is.front.header
      (subst (λ (b : List ℕ). StandsAt image_header b 0 frame.image frame.begin.opens.end) (sym bytes) frame.begin.opens.goes.header)

  -- it is above the limits
  pub too_large : reason_of read ≡ Some fronts.TooLarge → IsAboveLimits limits file (image_of (header_of read)).size (length (image_of (header_of read)).ec_info) limits
  too_large reason = record {
    image = image_of (header_of read);
    headers = headers (Some fronts.TooLarge) (refl, refused limits (stream_of read.stream) (header_of read) read.front.frames is.front.frames fronts.TooLarge reason);
    sides = refl;
    channels = refl;
    compared = refl;
  }

  -- it has this error before the sections of its frames
  pub front_fails : (error : FrontError) → reason_of read ≡ Some error → FileFails limits file (files.Front error)
  front_fails error reason = (stream_of read.stream, is.found, refused limits (stream_of read.stream) (header_of read) read.front.frames is.front.frames error reason)

-- an error before the frames is not that there are several, or layers
pub before_frames : (error : FileError) → is_before_frames error ≡ true → is_layers_error error ≡ false
before_frames (files.File e) before = refl
before_frames (files.Front fronts.TooLong) before = refl
before_frames (files.Front (fronts.ImageHeader e)) before = refl
before_frames (files.Front (fronts.Image e)) before = let bad : ⊥ = cc in absurd bad
before_frames (files.Front fronts.TooLarge) before = refl
before_frames (files.Front (fronts.Profile e)) before = refl
before_frames (files.Front (fronts.FrameHeader e)) before = refl
before_frames (files.Front (fronts.Frame e)) before = let bad : ⊥ = cc in absurd bad
before_frames (files.Front fronts.FramesTooLarge) before = refl
before_frames (files.Front fronts.TooManySections) before = refl
before_frames (files.Front (fronts.Contents e)) before = refl
before_frames (files.Front (fronts.TruncatedSection n)) before = refl
before_frames (files.Patches e) before = refl
before_frames (files.Start e) before = refl
before_frames (files.Tree e) before = refl
before_frames files.TooManyDecisions before = refl
before_frames (files.Samples e) before = refl
before_frames files.OutOfMemory before = refl

-- it may be that of frames that the headers do not list
pub unlisted : (reason : Option FrontError) → lists_frames reason ≡ false → (error : FrontError) → reason ≡ Some error → is_of_layers error ≡ false
unlisted None none error e = let bad : ⊥ = cc in absurd bad
unlisted (Some other) none error e = let same : other ≡ error = cc in subst (λ (x : FrontError). is_of_layers x ≡ false) same none

-- headers that list frames have some; where there is no reason, too
pub listed_frames : (reason : Option FrontError) → lists_frames reason ≡ true → has_frames reason ≡ true
listed_frames (Some error) e = e
listed_frames None e = refl

-- a format suits the picture as it is shown, too
same_suits : (format : Format) (image : Image) → suits format (upright image) ≡ suits format image
same_suits Pgm image = refl
same_suits Ppm image = refl
same_suits Pam image = refl
same_suits Pfm image = refl
same_suits Text image = refl

swapped : (a b c : Bool) → (b && (a && c)) ≡ (a && (b && c))
swapped true true c = refl
swapped true false c = refl
swapped false true c = refl
swapped false false c = refl

-- a PNG file holds the picture as it is shown, too: its sides are exchanged or not
turned : (t : Bool) (image : Image) →
    suits_png (record image { size = if t then record { width = image.size.height; height = image.size.width } else image.size; orientation = 1 }) ≡ suits_png image
turned true image = swapped (is_side image.size.width) (is_side image.size.height) (is_whole 16 image.bit_depth && alpha_suits (alpha_of image.ec_info))
turned false image = refl

same_output : (format : OutputFormat) (image : Image) → suits_output format (upright image) ≡ suits_output format image
same_output (Netpbm format) image = same_suits format image
same_output Png image = turned (is_turned image.orientation) image

same_usual : (image : Image) → usual (upright image) ≡ usual image
same_usual image = ap (λ (b : Bool). if suits Pfm image then Some Pfm else if b then Some (usual_whole image) else None) (same_suits (usual_whole image) image)

-- the format is that of the picture as it is shown, too
pub same_choice : (asked : Option OutputFormat) (image : Image) → chosen asked (upright image) ≡ chosen asked image
same_choice None image = ap (λ (o : Option Format). option_map (λ (f : Format). Netpbm f) o) (same_usual image)
same_choice (Some format) image = ap (λ (b : Bool). if b then Some format else None) (same_output format image)

-- so a format that was chosen for the file is that of its picture
pub choice_kept : (asked : Option OutputFormat) (image shown : Image) (format : OutputFormat) → chosen asked image ≡ Some format → shown ≡ upright image → chosen asked shown ≡ Some format
choice_kept asked image shown format e same = subst (λ (i : Image). chosen asked i ≡ Some format) (sym same) (same_choice asked image ∙ e)

-- and one that was chosen for its frames is that of each picture that they show
pub choice_of_frame : (limits : Limits) (file : List ℕ) (read : JxlFile) → IsReadOf limits file read → (number : ℕ) (picture : Picture) → IsFrameOfFile limits file number picture →
    (asked : Option OutputFormat) (format : OutputFormat) → chosen asked (image_of (header_of read)) ≡ Some format → chosen asked (image_of picture.header) ≡ Some format
choice_of_frame limits file read is number picture frame asked format e =
    choice_kept asked frame.image (image_of picture.header) format
    (subst (λ (i : Image). chosen asked i ≡ Some format) (frames_image limits file read is number picture frame) e) frame.upright.header

-- what is written of a picture of the file is the picture of the file, or that with a number
pub text_of_file : (limits : Limits) (file : List ℕ) (asked : Option OutputFormat) (picture : Picture) (steps : ℕ) → IsPictureOfFile limits file picture 0 steps → (result : Result Output Failure) →
    IfOk result (λ o. IsTextOf file picture asked (content_text o.content) (string_bytes o.left_out.channels) o.left_out.loss) →
    IfOk result (λ o. IsTextOfFile limits file asked (content_text o.content) (string_bytes o.left_out.channels) o.left_out.loss)
text_of_file limits file asked picture steps is (Ok o) written = record { picture = picture; steps = steps; is = is; written = written }
text_of_file limits file asked picture steps is (Err e) written = tt

pub text_of_frame : (limits : Limits) (file : List ℕ) (number : ℕ) (asked : Option OutputFormat) (picture : Picture) → IsFrameOfFile limits file number picture → (result : Result Output Failure) →
    IfOk result (λ o. IsTextOf file picture asked (content_text o.content) (string_bytes o.left_out.channels) o.left_out.loss) →
    IfOk result (λ o. IsTextOfFrame limits file number asked (content_text o.content) (string_bytes o.left_out.channels) o.left_out.loss)
text_of_frame limits file number asked picture is (Ok o) written = record { picture = picture; is = is; written = written }
text_of_frame limits file number asked picture is (Err e) written = tt

-- a picture that was decoded is the one with this number, or there are fewer
module _ (limits : Limits) (file : List ℕ) (number : ℕ) (r : Option Picture) where
  pub frame_if : (p : Picture) → r ≡ Some p → MatchOption r (HasFewerFrames limits file number) (IsFrameOfFile limits file number) → IsFrameOfFile limits file number p
  frame_if p is found = subst (λ (o : Option Picture). MatchOption o (HasFewerFrames limits file number) (IsFrameOfFile limits file number)) is found

  pub fewer_if : r ≡ None → MatchOption r (HasFewerFrames limits file number) (IsFrameOfFile limits file number) → HasFewerFrames limits file number
  fewer_if is found = subst (λ (o : Option Picture). MatchOption o (HasFewerFrames limits file number) (IsFrameOfFile limits file number)) is found

  pub whole_if : (p : Picture) → r ≡ Some p → IfSome r (λ p. IsWhole (image_of p.header) p.channels.items) → IsWhole (image_of p.header) p.channels.items
  whole_if p is whole = subst (λ (o : Option Picture). IfSome o (λ p. IsWhole (image_of p.header) p.channels.items)) is whole
