-- The picture of a file whose frames were read, or why it has none.
use Rattle.std.proofs.Common.{◌≡◌, ℕ, List, [], ◌∷◌, ◌++◌, map, Option, None, Result, Ok, Err, ap, subst, sym}
use Rattle.std.specs.Prelude.{IfErr, IfOk, MatchResult}
use Rattle.std.specs.Global.{Vec}
use Rattle.jxlm_bits.specs.Decoding.{Meaning}
use Rattle.jxl_coding.specs.Parse.{decoder_at}
use Rattle.jxl_coding.specs.Tokens.{entropy}
use Rattle.jxl_container.specs.Files.{HasCodestream, stream_of}
use Rattle.jxl_image_header.specs.Images.{Image, image_of}
use Rattle.jxl_image_header.specs.declared.image.ImageHeader.{ImageHeader}
use Rattle.jxl_picture.specs.declared.limits.Limits.{Limits}
use Rattle.jxl_picture.specs.declared.picture.Picture.{Picture}
use Rattle.jxl_codestream.specs.Fronts.{FrameAt, FrontFails, FrontStands, HasProfile}
use Rattle.jxl_codestream.specs.FrontParts.{AreFramesOf, IsReady, bytes_if, frame_at}
use Rattle.jxl_codestream.specs.declared.error.FrontError.{FrontError}
use Rattle.jxl_codestream.specs.declared.front.Frames.{Frames}
use Rattle.jxl_lossless.specs.Files.{IsReadOf, error_of, profile_of, reason_of, upright}
use Rattle.jxl_lossless.specs.Pictures.{FileFails, HasFront, IsPictureOfFile, ProfileOfFile}
use Rattle.jxl_lossless.specs.Saved.{FramesFail}
use Rattle.jxl_lossless.specs.Inner.Shown.{IsShown}
use Rattle.jxl_lossless.specs.declared.error.FileError.{FileError}
use Rattle.jxl_lossless.specs.declared.error.FileError.TheVariants as errors
use Rattle.jxl_lossless.specs.declared.file.JxlFile.{JxlFile}

module _ (limits : Limits) (file stream : List ℕ) (found : HasCodestream file (Ok stream)) (image : Image) (saved : List FrameAt) (shown : FrameAt)
    (stand : FrontStands (entropy decoder_at) limits stream image saved shown) where
  abbrev front : HasFront limits file
  front = record { bytes = stream; found = found; image = image; saved = saved; shown = shown; stands = stand }

  -- the picture of the frames of a file is that of the file
  pub of_file : (profile : Option (Vec ℕ)) → HasProfile (entropy decoder_at) limits stream image (bytes_if profile) → (before after : ℕ) (result : Result Picture FileError) →
      IfOk result (λ p. IsShown stream image saved shown p before after) → IfOk result (λ p. p.profile ≡ profile) → IfOk result (λ p. IsPictureOfFile limits file p before after)
  of_file profile has before after (Ok p) h same = record {
    front = front;
    coded = h.coded;
    decoded = h.decoded;
    upright = h.upright;
    profile = subst (λ (v : Option (Vec ℕ)). HasProfile (entropy decoder_at) limits stream image (bytes_if v)) (sym same) has;
  }
  of_file profile has before after (Err e) h same = tt

  fails : (e : FileError) → FramesFail (entropy decoder_at) stream image (saved ++ shown ∷ []) e → FileFails limits file e
  fails errors.OutOfMemory h = (front, h)
  fails (errors.Patches e) h = (front, h)
  fails (errors.Start e) h = (front, h)
  fails (errors.Tree e) h = (front, h)
  fails errors.TooManyDecisions h = (front, h)
  fails (errors.Samples e) h = (front, h)
  fails (errors.Front e) h = absurd h.8
  fails (errors.File e) h = absurd h.8

  -- and what is wrong with them is wrong with the file
  pub file_fails : (result : Result Picture FileError) → IfErr result (FramesFail (entropy decoder_at) stream image (saved ++ shown ∷ [])) → IfErr result (FileFails limits file)
  file_fails (Ok p) h = tt
  file_fails (Err e) h = fails e h

-- its header is that of the file, upright
pub header_shown : (stream : List ℕ) (image : Image) (saved : List FrameAt) (shown : FrameAt) (before after : ℕ) (result : Result Picture FileError) →
    IfOk result (λ p. IsShown stream image saved shown p before after) → IfOk result (λ p. image_of p.header ≡ upright image)
header_shown stream image saved shown before after (Ok p) h = h.upright.header
header_shown stream image saved shown before after (Err e) h = tt

-- they are these
frames_are : {D : Type 0} (d : Meaning D) (limits : Limits) (bytes : List ℕ) (header : ImageHeader) (frames : Result Frames FrontError) →
    MatchResult frames (AreFramesOf d limits bytes header) (FrontFails d limits bytes) → (f : Frames) → frames ≡ Ok f → AreFramesOf d limits bytes header f
frames_are d limits bytes header (Ok g) h f e = let same : g ≡ f = cc in subst (λ (x : Frames). AreFramesOf d limits bytes header x) same h
frames_are d limits bytes header (Err x) h f e = let bad : ⊥ = cc in absurd bad

-- the frames that were read are ready to be decoded
pub ready_frames : {D : Type 0} (d : Meaning D) (limits : Limits) (bytes : List ℕ) (header : ImageHeader) (frames : Result Frames FrontError) →
    MatchResult frames (AreFramesOf d limits bytes header) (FrontFails d limits bytes) → (f : Frames) → frames ≡ Ok f → IsReady bytes header f
ready_frames d limits bytes header frames h f is = (frames_are d limits bytes header frames h f is).ready

-- or they have this error
frames_refused : {D : Type 0} (d : Meaning D) (limits : Limits) (bytes : List ℕ) (header : ImageHeader) (frames : Result Frames FrontError) →
    MatchResult frames (AreFramesOf d limits bytes header) (FrontFails d limits bytes) → (error : FrontError) → frames ≡ Err error → FrontFails d limits bytes error
frames_refused d limits bytes header (Ok f) h error e = let bad : ⊥ = cc in absurd bad
frames_refused d limits bytes header (Err x) h error e = let same : x ≡ error = cc in subst (λ (y : FrontError). FrontFails d limits bytes y) same h

-- the profile that was read with them
profile_with : {D : Type 0} (d : Meaning D) (limits : Limits) (bytes : List ℕ) (image : Image) (profile : Option (Vec ℕ)) (frames : Result Frames FrontError) →
    MatchResult frames (λ frames. HasProfile d limits bytes image (bytes_if profile)) (λ error. profile ≡ None) → error_of frames ≡ None → HasProfile d limits bytes image (bytes_if profile)
profile_with d limits bytes image profile (Ok f) h none = h
profile_with d limits bytes image profile (Err x) h none = let bad : ⊥ = cc in absurd bad

module _ (limits : Limits) (file : List ℕ) (read : JxlFile) (is : IsReadOf limits file read) where
  -- the profile that was read is that of the file
  pub profile_read : reason_of read ≡ None → ProfileOfFile limits file (profile_of read)
  profile_read none = record {
    bytes = stream_of read.stream;
    found = is.found;
    image = image_of read.front.image;
    profile = profile_with (entropy decoder_at) limits (stream_of read.stream) (image_of read.front.image) read.front.profile read.front.frames is.front.profile none;
  }

  module _ (f : Frames) (has : read.front.frames ≡ Ok f) (bytes : List ℕ) (same : bytes ≡ stream_of read.stream) where
    abbrev image : Image
    image = image_of read.front.image

    abbrev all : List FrameAt
    all = map frame_at f.saved.items ++ frame_at f.shown ∷ []

    stand : FrontStands (entropy decoder_at) limits (stream_of read.stream) image (map frame_at f.saved.items) (frame_at f.shown)
    stand = (frames_are (entropy decoder_at) limits (stream_of read.stream) read.front.image read.front.frames is.front.frames f has).stand

    -- the picture of its frames is that of the file
    pub picture_read : (before after : ℕ) (result : Result Picture FileError) → IfOk result (λ p. IsShown bytes image (map frame_at f.saved.items) (frame_at f.shown) p before after) →
        IfOk result (λ p. p.profile ≡ read.front.profile) → IfOk result (λ p. IsPictureOfFile limits file p before after)
    picture_read before after result h kept =
        of_file limits file (stream_of read.stream) is.found image (map frame_at f.saved.items) (frame_at f.shown) stand read.front.profile
        (profile_with (entropy decoder_at) limits (stream_of read.stream) image read.front.profile read.front.frames is.front.profile (ap error_of has)) before after result
        (subst (λ (b : List ℕ). IfOk result (λ p. IsShown b image (map frame_at f.saved.items) (frame_at f.shown) p before after)) same h) kept

    -- what is wrong with its frames is wrong with the file
    pub failure_read : (result : Result Picture FileError) → IfErr result (FramesFail (entropy decoder_at) bytes image all) → IfErr result (FileFails limits file)
    failure_read result h =
        file_fails limits file (stream_of read.stream) is.found image (map frame_at f.saved.items) (frame_at f.shown) stand result
        (subst (λ (b : List ℕ). IfErr result (FramesFail (entropy decoder_at) b image all)) same h)

  -- what is wrong before their sections is wrong with the file
  pub refusal_read : (error : FrontError) → read.front.frames ≡ Err error → FileFails limits file (errors.Front error)
  refusal_read error has = (stream_of read.stream, is.found, frames_refused (entropy decoder_at) limits (stream_of read.stream) read.front.image read.front.frames is.front.frames error has)
