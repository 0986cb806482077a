-- For how long the pictures of a file are shown, by the headers of its frames (ISO/IEC 18181-1, codestream; frame header).
use Rattle.std.specs.Prelude.{◌≡◌, ℕ, ◌+◌, ◌-◌, List, [], ◌∷◌, ◌++◌, drop, map, Bool, true, false, MatchOption, Option, None, Some}
use Rattle.std.specs.List.{filter, list_any}
use Rattle.jxlm_bits.specs.ErrorKind.{UnlessMemory, kind_of}
use Rattle.jxl_coding.specs.Parse.{decoder_at}
use Rattle.jxl_coding.specs.Tokens.{entropy}
use Rattle.jxl_image_header.specs.Images.{Image}
use Rattle.jxl_image_header.specs.declared.size.Size.{Size}
use Rattle.jxl_frame_header.specs.Frames.{Frame, frame_header, frame_size}
use Rattle.jxl_picture.specs.Limits.{cells_of}
use Rattle.jxl_picture.specs.declared.limits.Limits.{Limits}
use Rattle.jxl_codestream.specs.Fronts.{FailsAt, FrameAt, PartsFail, PartsStand, StandsAt, end_of}
use Rattle.jxl_codestream.specs.declared.error.FrontError.{FrontError}
use Rattle.jxl_codestream.specs.declared.error.FrontError.TheVariants as fronts
use Rattle.jxl_layers.specs.Compositions.{is_displayed, is_final}
use Rattle.jxl_layers.specs.Refusals.{layer_refusal}
use Rattle.jxl_layers.specs.Openings.{OpeningFails, Opens}
use Rattle.jxl_frame_info.specs.declared.timeline.Timeline.{Timeline}
use Rattle.jxl_frame_info.specs.declared.timeline.TimelineError.{TimelineError}
use Rattle.jxl_frame_info.specs.declared.timeline.TimelineError.TheVariants as errors

-- for how long each of those frames is shown that are shown
abbrev pub durations_of : List FrameAt → List ℕ
durations_of frames = map (λ f. f.header.frame_use.duration) (filter (λ f. is_displayed f.header) frames)

-- the last frame that is shown is one of them
abbrev pub has_final : List FrameAt → Bool
has_final frames = list_any (λ f. is_final f.header) frames

-- how many cells a picture of this size has more than a frame of this header: each frame counts as the picture at least
abbrev pub spare : Size → Frame → ℕ
spare size h = cells_of size - cells_of (frame_size size h)

-- The header of a frame that begins at this byte ends at bit p from there: the frame is supported, whatever the slots hold.
pub record HasHeader (bytes : List ℕ) (image : Image) (start : ℕ) (h : Frame) (p : ℕ) : Type 0 where
  pub header : StandsAt (frame_header image) (drop start bytes) 0 h p
  pub supported : layer_refusal image h ≡ None

module _ (limits : Limits) (bytes : List ℕ) (image : Image) where
  -- This frame begins at this byte, after frames that count this number of cells: with it the frames are within the limits, and all
  -- its sections lie in the codestream.
  pub record ComesAt (start used : ℕ) (f : FrameAt) : Type 0 where
    pub begin : f.start ≡ start
    pub end : ℕ
    pub header : HasHeader bytes image start f.header end
    pub parts : PartsStand (entropy decoder_at) limits bytes image (used + spare image.size f.header) f end

  -- These frames follow one another from the first byte to the second, none after the last one that is shown, and count this number
  -- of cells.
  pub data AreFrames (first : ℕ) : List FrameAt → ℕ → ℕ → Type 0 where
    NoFrame : AreFrames first [] first 0
    OneMore : (fs : List FrameAt) (start used : ℕ) (f : FrameAt) → AreFrames first fs start used → has_final fs ≡ false → ComesAt start used f →
        AreFrames first (fs ++ f ∷ []) (f.start + end_of f.entries) (used + spare image.size f.header + cells_of (frame_size image.size f.header))

  -- what each error says of the frame that begins at this byte, after frames that count this number of cells
  abbrev pub NextFails : ℕ → ℕ → FrontError → Type 0
  NextFails start used (fronts.FrameHeader e) = UnlessMemory (kind_of e) (FailsAt (frame_header image) (drop start bytes) 0 (kind_of e))
  NextFails start used (fronts.Frame reason) = (h : Frame) × (p : ℕ) × StandsAt (frame_header image) (drop start bytes) 0 h p × (layer_refusal image h ≡ Some reason)
  NextFails start used e = (h : Frame) × (p : ℕ) × HasHeader bytes image start h p × PartsFail (entropy decoder_at) limits (drop start bytes) image (used + spare image.size h) h p e

  -- The durations are those of the frames from this byte on: up to the last that is shown, or to the first that has this error.
  pub record IsTimeline (first : ℕ) (t : Timeline) : Type 0 where
    pub frames : List FrameAt
    pub next : ℕ
    pub used : ℕ
    pub are : AreFrames first frames next used
    pub durations : t.durations.items ≡ durations_of frames
    pub ends : MatchOption t.reason (has_final frames ≡ true) (λ e. (has_final frames ≡ false) × NextFails next used e)

-- So it is of the frames of a codestream.
pub record IsTimelineOf (limits : Limits) (bytes : List ℕ) (t : Timeline) : Type 0 where
  pub image : Image
  pub icc : Option (List ℕ)
  pub start : ℕ
  pub opens : Opens limits bytes image icc start
  pub is : IsTimeline limits bytes image start t

-- what each error says of a codestream
abbrev pub TimelineFails : Limits → List ℕ → TimelineError → Type 0
TimelineFails limits bytes (errors.Front e) = OpeningFails limits bytes e
TimelineFails limits bytes errors.OutOfMemory = Unit {0}
