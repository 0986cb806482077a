-- The frames of a codestream, one after another, and what each makes (ISO/IEC 18181-1, codestream; frame header).
use Rattle.std.specs.Prelude.{◌≡◌, ℕ, ◌+◌, ◌-◌, ◌≤◌, ℤ, List, [], ◌∷◌, ◌++◌, drop, Bool, true, false, Option, None, Some}
use Rattle.std.specs.Float.{Float}
use Rattle.jxlm_base.specs.Grid.{Grid}
use Rattle.jxlm_bits.specs.ErrorKind.{UnlessMemory, kind_of}
use Rattle.jxl_coding.specs.Parse.{decoder_at}
use Rattle.jxl_coding.specs.Tokens.{entropy}
use Rattle.jxl_image_header.specs.Images.{Image}
use Rattle.jxl_image_header.specs.declared.size.Size.{Size}
use Rattle.jxl_frame_header.specs.Frames.{Frame, frame_header, frame_size}
use Rattle.jxl_picture.specs.Limits.{cells_of}
use Rattle.jxl_picture.specs.declared.limits.Limits.{Limits}
use Rattle.jxl_codestream.specs.Fronts.{FailsAt, FrameAt, PartsFail, PartsStand, StandsAt, end_of}
use Rattle.jxl_codestream.specs.declared.error.FrontError.{FrontError}
use Rattle.jxl_codestream.specs.declared.error.FrontError.TheVariants as fronts
use Rattle.jxl_patches.specs.Slots.{Slots, no_slots}
use Rattle.jxl_lossless.specs.Frames.{FrameFails, IsFrame}
use Rattle.jxl_lossless.specs.declared.error.FileError.{FileError}
use Rattle.jxl_lossless.specs.declared.error.FileError.TheVariants as files
use Rattle.jxl_layers.specs.Compositions.{IsPictureOf, is_displayed, is_final, slots_after}
use Rattle.jxl_layers.specs.Refusals.{composition_refusal, layer_refusal}
use Rattle.jxl_animation.specs.declared.error.AnimationError.{AnimationError}
use Rattle.jxl_animation.specs.declared.error.AnimationError.TheVariants as errors
use Rattle.jxl_animation.specs.declared.frames.ShownFrame.{ShownFrame}

-- Where a decoder is: what the slots hold, the byte where the next frame begins, how many cells the frames before it count, and
-- whether none is left.
pub record State : Type 0 where
  pub slots : Slots
  pub start : ℕ
  pub used : ℕ
  pub done : Bool

-- before the first frame, which begins at this byte
abbrev pub first_state : ℕ → State
first_state start = record { slots = no_slots; start = start; used = 0; done = false }

-- how many cells count before those of a frame of this header: those of the frames before it, and what the picture has more than
-- the frame. So each frame counts as the picture at least.
abbrev pub used_before : Size → ℕ → Frame → ℕ
used_before size used h = used + (cells_of size - cells_of (frame_size size h))

-- where the decoder is after a frame that made these channels, from these values if it was blended
abbrev pub state_after : Image → State → FrameAt → Option (List (Grid Float)) → List (Grid ℤ) → State
state_after image s f singles pictures = record {
  slots = slots_after image.size f.header s.slots singles pictures;
  start = f.start + end_of f.entries;
  used = used_before image.size s.used f.header + cells_of (frame_size image.size f.header);
  done = is_final f.header;
}

module _ (limits : Limits) (bytes : List ℕ) (image : Image) where
  -- A frame header stands at this byte, up to bit p from there, of a frame that is supported and can be composed.
  pub record HeaderGoesOn (s : State) (h : Frame) (p : ℕ) : Type 0 where
    pub header : StandsAt (frame_header image) (drop s.start bytes) 0 h p
    pub supported : layer_refusal image h ≡ None
    pub composable : composition_refusal image h s.slots ≡ None

  -- This frame comes next: so does its header, with it the frames are within the limits, and all its sections lie in the codestream.
  pub record ComesNext (s : State) (f : FrameAt) : Type 0 where
    pub going : s.done ≡ false
    pub begin : f.start ≡ s.start
    pub end : ℕ
    pub goes : HeaderGoesOn s f.header end
    pub parts : PartsStand (entropy decoder_at) limits bytes image (used_before image.size s.used f.header) f end

  -- The next frame is decoded, with patches of what the slots hold, and makes these channels; the decoder goes from state s to t,
  -- and the steps in trees from n to m.
  pub record Makes (s : State) (f : FrameAt) (singles : Option (List (Grid Float))) (pictures : List (Grid ℤ)) (t : State) (n m : ℕ) : Type 0 where
    pub comes : ComesNext s f
    pub channels : List (Grid ℤ)
    pub decoded : IsFrame (entropy decoder_at) image s.slots bytes f channels n m
    pub made : IsPictureOf image f.header s.slots channels singles pictures
    pub after : t ≡ state_after image s f singles pictures

  -- From state s to state t the decoder passed these frames, none of which is shown.
  pub data Passes (s : State) (n : ℕ) : List FrameAt → State → ℕ → Type 0 where
    NoFrame : Passes s n [] s n
    OneMore : (fs : List FrameAt) (t : State) (m : ℕ) (f : FrameAt) (singles : Option (List (Grid Float))) (pictures : List (Grid ℤ)) (u : State) (k : ℕ) → Passes s n fs t m →
        Makes t f singles pictures u m k → is_displayed f.header ≡ false → Passes s n (fs ++ f ∷ []) u k

  -- The next picture that is shown, after frames that are not: it has the channels that its frame makes.
  pub record ShowsNext (s : State) (shown : ShownFrame) (t : State) (n m : ℕ) : Type 0 where
    pub hidden : List FrameAt
    pub middle : State
    pub steps : ℕ
    pub passes : Passes s n hidden middle steps
    pub frame : FrameAt
    pub singles : Option (List (Grid Float))
    pub makes : Makes middle frame singles shown.channels.items t steps m
    pub displayed : is_displayed frame.header ≡ true
    pub duration : shown.duration ≡ frame.header.frame_use.duration
    pub timecode : shown.timecode ≡ frame.header.frame_use.timecode

  -- what each error says of the frame that comes next: up to which stage all stands, and what fails there
  abbrev pub FrontFailsNext : State → FrontError → Type 0
  FrontFailsNext s (fronts.FrameHeader e) = UnlessMemory (kind_of e) (FailsAt (frame_header image) (drop s.start bytes) 0 (kind_of e))
  FrontFailsNext s (fronts.Frame reason) = (h : Frame) × (p : ℕ) × StandsAt (frame_header image) (drop s.start bytes) 0 h p × (layer_refusal image h ≡ Some reason)
  FrontFailsNext s e = (h : Frame) × (p : ℕ) × HeaderGoesOn s h p × PartsFail (entropy decoder_at) limits (drop s.start bytes) image (used_before image.size s.used h) h p e

  abbrev pub FileFailsNext : State → FileError → Type 0
  FileFailsNext s files.OutOfMemory = Unit {0}
  FileFailsNext s (files.Front e) = FrontFailsNext s e
  FileFailsNext s e = (f : FrameAt) × ComesNext s f × FrameFails (entropy decoder_at) image s.slots bytes f e

  abbrev pub FailsNext : State → AnimationError → Type 0
  FailsNext s (errors.File e) = FileFailsNext s e
  FailsNext s (errors.Layer e) = (h : Frame) × (p : ℕ) × StandsAt (frame_header image) (drop s.start bytes) 0 h p × (layer_refusal image h ≡ None) × (composition_refusal image h s.slots ≡ Some e)

  -- The first error from state s on: frames that are not shown are passed, up to state t, and the next one has the error.
  pub record FailsAfter (s : State) (t : State) (n : ℕ) (e : AnimationError) : Type 0 where
    pub hidden : List FrameAt
    pub steps : ℕ
    pub passes : Passes s n hidden t steps
    pub going : t.done ≡ false
    pub fails : FailsNext t e

  -- From state s to state t the decoder shows this number of pictures.
  pub data ShowsFrames (s : State) (n : ℕ) : ℕ → State → ℕ → Type 0 where
    NoPicture : ShowsFrames s n 0 s n
    NextPicture : (number : ℕ) (t : State) (m : ℕ) (shown : ShownFrame) (u : State) (k : ℕ) → ShowsFrames s n number t m → ShowsNext t shown u m k → ShowsFrames s n (number + 1) u k

  -- This picture is shown after this number of others.
  pub record ShowsNth (s : State) (number : ℕ) (shown : ShownFrame) (t : State) (n m : ℕ) : Type 0 where
    pub middle : State
    pub steps : ℕ
    pub before : ShowsFrames s n number middle steps
    pub next : ShowsNext middle shown t steps m

  -- At most this number of pictures is shown, up to the last frame.
  pub record EndsBefore (s : State) (number : ℕ) (t : State) (n m : ℕ) : Type 0 where
    pub count : ℕ
    pub few : count ≤ number
    pub shows : ShowsFrames s n count t m
    pub ended : t.done ≡ true

  -- The first error, after at most this number of pictures.
  pub record FailsBy (s : State) (number : ℕ) (t : State) (n : ℕ) (e : AnimationError) : Type 0 where
    pub count : ℕ
    pub few : count ≤ number
    pub middle : State
    pub steps : ℕ
    pub shows : ShowsFrames s n count middle steps
    pub fails : FailsAfter middle t steps e
