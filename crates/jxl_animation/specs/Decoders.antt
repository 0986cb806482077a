-- What a decoder of frames holds.
use Rattle.std.specs.Prelude.{◌≡◌, ◌⊎◌, ℕ, ◌+◌, ◌*◌, ◌^◌, ◌<◌, ◌≤◌, List, length, Option, Result, Ok, MatchOption, MatchResult}
use Rattle.jxl_container.specs.Files.{HasCodestream, stream_of}
use Rattle.jxl_image_header.specs.Images.{Image, image_of}
use Rattle.jxl_codestream.specs.FrontParts.{HasLowShifts, bytes_if}
use Rattle.jxl_picture.specs.Limits.{channel_count}
use Rattle.jxl_picture.specs.Orientations.{IsUpright}
use Rattle.jxl_picture.specs.declared.limits.Limits.{Limits}
use Rattle.jxl_patches.specs.SavedParts.{slots_of}
use Rattle.jxl_patches.specs.Slots.{HoldSingles}
use Rattle.jxl_lossless.specs.Saved.{HoldChannels}
use Rattle.jxl_lossless.specs.declared.error.FileError.TheVariants as files
use Rattle.jxl_layers.specs.Openings.{Opens}
use Rattle.jxl_animation.specs.Files.{FrameOfFileFails, HasFewerFrames, IsShownOfFile}
use Rattle.jxl_animation.specs.States.{FailsAfter, ShowsFrames, ShowsNext, State, first_state}
use Rattle.jxl_animation.specs.declared.error.AnimationError.{AnimationError}
use Rattle.jxl_animation.specs.declared.error.AnimationError.TheVariants as errors
use Rattle.jxl_animation.specs.declared.frames.FrameDecoder.{FrameDecoder}
use Rattle.jxl_animation.specs.declared.frames.ShownFrame.{ShownFrame}
use Rattle.jxl_animation.specs.declared.frames.ShownPicture.{ShownPicture}
use Rattle.jxl_animation.specs.declared.frames.Source.{Source}

-- the bytes of the codestream, its image header, and its profile
abbrev pub bytes_in : Source → List ℕ
bytes_in x = stream_of x.stream

abbrev pub image_in : Source → Image
image_in x = image_of x.image

-- where the decoder is
abbrev pub state_of : FrameDecoder → State
state_of x = record { slots = slots_of x.slots; start = x.start; used = x.used; done = x.is_done }

-- What decoding the frames of a codestream needs: it is not too long, samples and channels are not too many, and shifts are low.
pub record IsReadySource (x : Source) : Type 0 where
  pub short : 8 * length (bytes_in x) < 2 ^ 64
  pub deep : x.image.bit_depth.bits_per_sample ≤ 32
  pub many : channel_count (image_in x) ≤ 2 ^ 20
  pub low : HasLowShifts (image_in x)

-- And where the decoder is: within the codestream and the limits, and saved frames have all channels.
pub record IsReadyState (x : Source) (s : State) : Type 0 where
  pub inside : s.start ≤ length (bytes_in x)
  pub within : s.used ≤ x.limits.pixels
  pub held : HoldChannels (image_in x) s.slots
  pub singles : HoldSingles s.slots

pub record IsReadyDecoder (x : FrameDecoder) : Type 0 where
  pub source : IsReadySource x.source
  pub state : IsReadyState x.source (state_of x)

-- A decoder of the frames of this file, before the first.
pub record IsDecoderOf (limits : Limits) (file : List ℕ) (x : FrameDecoder) : Type 0 where
  pub found : HasCodestream file (Ok (bytes_in x.source))
  pub opens : Opens limits (bytes_in x.source) (image_in x.source) (bytes_if x.source.profile) x.start
  pub limits_are : x.source.limits ≡ limits
  pub first : state_of x ≡ first_state x.start

-- A decoder of the frames of this file, after this number of pictures, and of steps in trees.
pub record HasShown (limits : Limits) (file : List ℕ) (number steps : ℕ) (x : FrameDecoder) : Type 0 where
  pub start : ℕ
  pub found : HasCodestream file (Ok (bytes_in x.source))
  pub opens : Opens limits (bytes_in x.source) (image_in x.source) (bytes_if x.source.profile) start
  pub limits_are : x.source.limits ≡ limits
  pub shows : ShowsFrames limits (bytes_in x.source) (image_in x.source) (first_state start) 0 number (state_of x) steps

-- The next picture that is shown, upright, with the profile of the file. The decoder goes on, and the steps in trees are counted.
pub record ShowsPicture (x : FrameDecoder) (p : ShownPicture) (y : FrameDecoder) (n m : ℕ) : Type 0 where
  pub frame : ShownFrame
  pub shows : ShowsNext x.source.limits (bytes_in x.source) (image_in x.source) (state_of x) frame (state_of y) n m
  pub upright : IsUpright (image_in x.source) frame.channels.items (image_of p.picture.header) p.picture.channels.items
  pub profile : bytes_if p.picture.profile ≡ bytes_if x.source.profile
  pub duration : p.duration ≡ frame.duration
  pub timecode : p.timecode ≡ frame.timecode

-- why there is no next picture: a frame has this error; or the picture was passed, and memory is wanting for it upright
abbrev pub PictureFails : FrameDecoder → FrameDecoder → ℕ → ℕ → AnimationError → Type 0
PictureFails x y n m e =
    FailsAfter x.source.limits (bytes_in x.source) (image_in x.source) (state_of x) (state_of y) n e ⊎
    ((frame : ShownFrame) × ShowsNext x.source.limits (bytes_in x.source) (image_in x.source) (state_of x) frame (state_of y) n m × (e ≡ errors.File files.OutOfMemory))

-- what comes next of a file, after this number of pictures: the picture with this number, or none, or an error of the frames up to it
abbrev pub IsNextOfFile : Limits → List ℕ → ℕ → FrameDecoder → ℕ → Result (Option ShownPicture) AnimationError → Type 0
IsNextOfFile limits file number y steps r =
    MatchResult r (λ o. MatchOption o (HasFewerFrames limits file number)
    (λ p. IsShownOfFile limits file number p × HasShown limits file (number + 1) steps y)) (FrameOfFileFails limits file number)
