-- The pictures that a file shows, and what is wrong with it (ISO/IEC 18181-1 and 18181-2).
use Rattle.std.specs.Prelude.{◌≡◌, ◌⊎◌, ℕ, List, Option, Ok, Err}
use Rattle.jxl_container.specs.Files.{HasCodestream, UnlessMemory}
use Rattle.jxl_image_header.specs.Images.{Image, image_of}
use Rattle.jxl_codestream.specs.FrontParts.{bytes_if}
use Rattle.jxl_picture.specs.Orientations.{IsUpright}
use Rattle.jxl_picture.specs.declared.picture.Picture.{Picture}
use Rattle.jxl_picture.specs.declared.limits.Limits.{Limits}
use Rattle.jxl_lossless.specs.declared.error.FileError.TheVariants as files
use Rattle.jxl_layers.specs.Openings.{OpeningFails, Opens}
use Rattle.jxl_animation.specs.States.{EndsBefore, FailsBy, ShowsNth, State, first_state}
use Rattle.jxl_animation.specs.declared.error.AnimationError.{AnimationError}
use Rattle.jxl_animation.specs.declared.error.AnimationError.TheVariants as errors
use Rattle.jxl_animation.specs.declared.frames.ShownFrame.{ShownFrame}
use Rattle.jxl_animation.specs.declared.frames.ShownPicture.{ShownPicture}

-- what each error says of a file
abbrev pub FileNotOpened : Limits → List ℕ → AnimationError → Type 0
FileNotOpened limits file (errors.File (files.File e)) = UnlessMemory e (HasCodestream file (Err e))
FileNotOpened limits file (errors.File (files.Front e)) = (bytes : List ℕ) × HasCodestream file (Ok bytes) × OpeningFails limits bytes e
FileNotOpened limits file e = ⊥

-- The frames of a file begin: its codestream has these bytes, this image header and this profile, and the first frame begins at
-- this byte.
pub record BeginFrames (limits : Limits) (file bytes : List ℕ) (image : Image) (icc : Option (List ℕ)) (start : ℕ) : Type 0 where
  pub found : HasCodestream file (Ok bytes)
  pub opens : Opens limits bytes image icc start

-- This is the picture with this number among those that a file shows, from 0 on, upright, with the profile of the file.
pub record IsFrameOfFile (limits : Limits) (file : List ℕ) (number : ℕ) (picture : Picture) : Type 0 where
  pub bytes : List ℕ
  pub image : Image
  pub start : ℕ
  pub begin : BeginFrames limits file bytes image (bytes_if picture.profile) start
  pub shown : ShownFrame
  pub after : State
  pub steps : ℕ
  pub shows : ShowsNth limits bytes image (first_state start) number shown after 0 steps
  pub upright : IsUpright image shown.channels.items (image_of picture.header) picture.channels.items

-- This is the picture with this number among those that a file shows, with its duration and its time code.
pub record IsShownOfFile (limits : Limits) (file : List ℕ) (number : ℕ) (p : ShownPicture) : Type 0 where
  pub frame : IsFrameOfFile limits file number p.picture
  pub duration : p.duration ≡ frame.shown.duration
  pub timecode : p.timecode ≡ frame.shown.timecode

-- It shows at most this number.
pub record HasFewerFrames (limits : Limits) (file : List ℕ) (number : ℕ) : Type 0 where
  pub bytes : List ℕ
  pub image : Image
  pub icc : Option (List ℕ)
  pub start : ℕ
  pub begin : BeginFrames limits file bytes image icc start
  pub after : State
  pub steps : ℕ
  pub ends : EndsBefore limits bytes image (first_state start) number after 0 steps

-- Its frames have this error, the first of the picture with this number and those before it.
pub record FramesOfFileFail (limits : Limits) (file : List ℕ) (number : ℕ) (e : AnimationError) : Type 0 where
  pub bytes : List ℕ
  pub image : Image
  pub icc : Option (List ℕ)
  pub start : ℕ
  pub begin : BeginFrames limits file bytes image icc start
  pub after : State
  pub fails : FailsBy limits bytes image (first_state start) number after 0 e

-- it has this error before its frames, or there
abbrev pub FrameOfFileFails : Limits → List ℕ → ℕ → AnimationError → Type 0
FrameOfFileFails limits file number e = FileNotOpened limits file e ⊎ FramesOfFileFail limits file number e
