-- A file that was read: its headers, how large it is, and why a call fails.
use Rattle.std.proofs.Common.{◌≡◌, ℕ, ◌+◌, ◌*◌, ◌^◌, ◌<◌, ◌≤◌, List, map, Bool, true, false, Option, Some, None, Result, Ok, Err, refl, sym, ap, ◌∙◌, subst, arith}
use Rattle.std.specs.Prelude.{MatchResult, nat_lt, if◌then◌else◌}
use Rattle.std.specs.Global.{Vec}
use Rattle.std.proofs.Math.Nat.{mul_comm, mul_assoc}
use Rattle.std.proofs.lemmas.Bool.{le-ltb, ltb-false}
use Rattle.jxlm_bits.specs.Decoding.{Found, Meaning}
use Rattle.jxlm_bits.specs.ErrorKind.{ErrorAt}
use Rattle.jxl_coding.specs.Parse.{decoder_at}
use Rattle.jxl_coding.specs.Tokens.{entropy}
use Rattle.jxl_container.specs.Files.{stream_of}
use Rattle.jxl_container.specs.declared.error.FileError.{FileError as BoxError}
use Rattle.jxl_container.proofs.FileLaws.{one_codestream}
use Rattle.jxl_image_header.specs.Images.{Image, image_header, image_of}
use Rattle.jxl_image_header.specs.declared.size.Size.{Size}
use Rattle.jxl_codestream.specs.Fronts.{FrameAt, FrontFails, FrontStands, HasProfile, StandsAt}
use Rattle.jxl_codestream.specs.FrontParts.{AreFramesOf, bytes_if, frame_at}
use Rattle.jxl_codestream.specs.declared.error.FrontError.{FrontError}
use Rattle.jxl_codestream.specs.declared.front.Frames.{Frames}
use Rattle.jxl_lossless.specs.Files.{IsReadOf, error_of, header_of, profile_of, reason_of, upright}
use Rattle.jxl_lossless.specs.Pictures.{FileFails}
use Rattle.jxl_lossless.specs.declared.error.FileError.{FileError}
use Rattle.jxl_lossless.specs.declared.error.FileError.TheVariants as errors
use Rattle.jxl_lossless.specs.declared.file.JxlFile.{JxlFile}
use Rattle.jxl_lossless.proofs.FilePictures.{refusal_read}
use Rattle.jxl_picture.specs.Limits.{Allow, channel_count}
use Rattle.jxl_picture.specs.declared.limits.Limits.{Limits}
use Rattle.jxl_c_picture.specs.Channels.{sample_count}
use Rattle.jxl_c.specs.Headers.{FailsBy, HasHeaders}
use Rattle.jxl_c.specs.Kinds.{is_small_limits, limits_of}
use Rattle.jxl_c.specs.Opened.{IsOpen}
use Rattle.jxl_c.specs.Statuses.{status_of}
use Rattle.jxl_c.specs.declared.limits.CLimits.{CLimits}
use Rattle.jxl_c_picture.proofs.Counts.{samples_less}

-- the profile that was read with the frames
profile_with : {D : Type 0} (d : Meaning D) (limits : Limits) (bytes : List ℕ) (image : Image) (profile : Option (Vec ℕ)) (frames : Result Frames FrontError) →
    MatchResult frames (λ frames. HasProfile d limits bytes image (bytes_if profile)) (λ error. profile ≡ None) → error_of frames ≡ None → HasProfile d limits bytes image (bytes_if profile)
profile_with d limits bytes image profile (Ok f) h none = h
profile_with d limits bytes image profile (Err x) h none = let bad : ⊥ = cc in absurd bad

-- the frames of a codestream
pub record Frontal (limits : Limits) (bytes : List ℕ) (image : Image) : Type 0 where
  pub saved : List FrameAt
  pub shown : FrameAt
  pub stands : FrontStands (entropy decoder_at) limits bytes image saved shown

pub front_with : (limits : Limits) (bytes : List ℕ) (read : JxlFile) (frames : Result Frames FrontError) →
    MatchResult frames (AreFramesOf (entropy decoder_at) limits bytes read.front.image) (FrontFails (entropy decoder_at) limits bytes) → error_of frames ≡ None → Frontal limits bytes (image_of read.front.image)
front_with limits bytes read (Ok f) h none = record { saved = map frame_at f.saved.items; shown = frame_at f.shown; stands = h.stand }
front_with limits bytes read (Err x) h none = let bad : ⊥ = cc in absurd bad

-- the reason why frames are not decoded
frames_err : (frames : Result Frames FrontError) (error : FrontError) → error_of frames ≡ Some error → frames ≡ Err error
frames_err (Ok f) error e = let bad : ⊥ = cc in absurd bad
frames_err (Err x) error e = let same : x ≡ error = cc in ap (λ (y : FrontError). Err y) same

module _ (limits : Limits) (file : List ℕ) (read : JxlFile) (is : IsReadOf limits file read) where
  pub refused_by : (error : FrontError) → reason_of read ≡ Some error → FileFails limits file (errors.Front error)
  refused_by error e = refusal_read limits file read is error (frames_err read.front.frames error e)

  pub profile_held : reason_of read ≡ None → HasProfile (entropy decoder_at) limits (stream_of read.stream) (image_of (header_of read)) (profile_of read)
  profile_held none = profile_with (entropy decoder_at) limits (stream_of read.stream) (image_of read.front.image) read.front.profile read.front.frames is.front.profile none

same_stream : (bytes other : List ℕ) → ◌≡◌ {A = Result (List ℕ) BoxError} (Ok bytes) (Ok other) → bytes ≡ other
same_stream bytes other e = cc

same_found : (r : Result (Found Image) ErrorAt) (a b : Found Image) → r ≡ Ok a → r ≡ Ok b → a ≡ b
same_found r a b h k = cc

-- one image header is at the start of a codestream
read_once : (bytes other : List ℕ) (v w : Image) (p q : ℕ) → bytes ≡ other → StandsAt image_header bytes 0 v p → StandsAt image_header other 0 w q → v ≡ w
read_once bytes other v w p q same a b =
    let moved : StandsAt image_header bytes 0 w q = subst (λ (bs : List ℕ). StandsAt image_header bs 0 w q) (sym same) b in
    ap (λ (f : Found Image). f.value) (same_found (image_header.read bytes 0) _ _ a moved)

-- all samples can be counted
few_samples : (n a w h bytes : ℕ) → n ≤ a * (w * h) → (0 + w * h) * (4 * a) ≤ bytes → bytes < 2 ^ 64 → n < 2 ^ 64
few_samples n a w h bytes le fit small =
    let none : (0 + w * h) * (4 * a) ≡ (w * h) * (4 * a) = ap (λ (k : ℕ). k * (4 * a)) (omega arith) in
    let same : a * (w * h) ≡ (w * h) * a = mul_comm a (w * h) in
    let four : (w * h) * (4 * a) ≡ (w * h) * a * 4 = ap (λ (k : ℕ). (w * h) * k) (mul_comm 4 a) ∙ sym (mul_assoc (w * h) a 4) in
    omega (arith, le, fit, small, none, same, four)

abbrev turn : Size → Size
turn size = record { width = size.height; height = size.width }

sides_turned : (size : Size) (b : Bool) → (if b then turn size else size).width * (if b then turn size else size).height ≡ size.width * size.height
sides_turned size true = mul_comm size.height size.width
sides_turned size false = refl

turned_less : (image : Image) → (upright image).size.width * (upright image).size.height ≡ image.size.width * image.size.height
turned_less image = sides_turned image.size (nat_lt 4 image.orientation)

samples_counted : (limits : Limits) (image : Image) → Allow limits image → limits.bytes < 2 ^ 64 → sample_count (upright image) < 2 ^ 64
samples_counted limits image allow small =
    let all = samples_less (upright image) in
    let within = subst (λ (n : ℕ). sample_count (upright image) ≤ channel_count image * n) (turned_less image) all in
    few_samples (sample_count (upright image)) (channel_count image) image.size.width image.size.height limits.bytes within allow.frame.3 small

pub is_open : (limits : CLimits) (l : Limits) (file : List ℕ) (read : JxlFile) → is_small_limits limits ≡ false → l ≡ limits_of limits → l.bytes < 2 ^ 64 → IsReadOf l file read → reason_of read ≡ None → IsOpen limits file read
is_open limits l file read known e small is none =
    let read_by : IsReadOf (limits_of limits) file read = subst (λ (m : Limits). IsReadOf m file read) e is in
    let allow = (profile_held (limits_of limits) file read read_by none).header.2 in
    record {
      known = ltb-false limits.size 40 known;
      is = read_by;
      none = none;
      few = allow.most;
      small = samples_counted (limits_of limits) (image_of (header_of read)) allow (subst (λ (m : Limits). m.bytes < 2 ^ 64) e small);
    }

module _ (limits : CLimits) (file : List ℕ) where
  -- a struct that is too small, and a file with an error
  pub small_fails : (status : ℕ) → is_small_limits limits ≡ true → status ≡ 8 → FailsBy limits file status
  small_fails status small is = record { small = λ _. is; error = λ large. let bad : ⊥ = cc in absurd bad }

  pub fails_by : (l : Limits) (error : FileError) (status : ℕ) → is_small_limits limits ≡ false → l ≡ limits_of limits → FileFails l file error → status ≡ status_of error → FailsBy limits file status
  fails_by l error status known e fails is = record {
    small = λ small. let bad : ⊥ = cc in absurd bad;
    error = λ _. record { error = error; fails = subst (λ (m : Limits). FileFails m file error) e fails; is = is };
  }

  module _ (read : JxlFile) (opened : IsOpen limits file read) where
    abbrev front : Frontal (limits_of limits) (stream_of read.stream) (image_of (header_of read))
    front = front_with (limits_of limits) (stream_of read.stream) read read.front.frames opened.is.front.frames opened.none

    -- its headers
    abbrev pub has_headers : HasHeaders limits file
    has_headers = record {
      known = opened.known;
      front = record { bytes = stream_of read.stream; found = opened.is.found; image = image_of (header_of read); saved = front.saved; shown = front.shown; stands = front.stands };
      icc = profile_of read;
      profile = profile_held (limits_of limits) file read opened.is opened.none;
    }

    pub not_small : is_small_limits limits ≡ false
    not_small = le-ltb limits.size 40 opened.known

    -- all headers of the file are these
    pub one_header : (has : HasHeaders limits file) → has.front.image ≡ image_of (header_of read)
    one_header has =
        let same : has.front.bytes ≡ stream_of read.stream = same_stream has.front.bytes (stream_of read.stream) (one_codestream file (Ok has.front.bytes) (Ok (stream_of read.stream)) has.front.found opened.is.found) in
        let there = profile_held (limits_of limits) file read opened.is opened.none in
        read_once has.front.bytes (stream_of read.stream) has.front.image (image_of (header_of read)) has.profile.end there.end same has.profile.header.0 there.header.0

  -- an error of what comes after the headers
  pub error_fails : (read : JxlFile) → IsOpen limits file read → (error : FileError) (status : ℕ) → FileFails (limits_of limits) file error → status ≡ status_of error → FailsBy limits file status
  error_fails read opened error status fails is = fails_by (limits_of limits) error status (not_small read opened) refl fails is
