-- What was read of a codestream, and what a frame made.
use Rattle.std.specs.Prelude.{◌≡◌, ℕ, ◌+◌, ◌≤◌, ℤ, List, true, false, Option, MatchOption}
use Rattle.jxlm_base.specs.Grid.{Grid}
use Rattle.jxl_frame_header.specs.Frames.{Frame, frame_of, frame_size}
use Rattle.jxl_picture.specs.Limits.{cells_of}
use Rattle.jxl_picture.specs.Pictures.{AreChannels}
use Rattle.jxl_codestream.specs.FrontParts.{IsReadyFrame, frame_at}
use Rattle.jxl_codestream.specs.declared.frame.FrameFront.{FrameFront}
use Rattle.jxl_patches.specs.SavedParts.{singles_in}
use Rattle.jxl_layers.specs.Compositions.{AreSinglesIf, is_displayed, picture_size}
use Rattle.jxl_animation.specs.Decoders.{bytes_in, image_in, state_of}
use Rattle.jxl_animation.specs.States.{Makes, state_after, used_before}
use Rattle.jxl_animation.specs.declared.frames.FrameDecoder.{FrameDecoder}
use Rattle.jxl_animation.specs.declared.frames.Made.{Made}
use Rattle.jxl_animation.specs.declared.frames.ShownFrame.{ShownFrame}

-- how many cells count after a frame
abbrev pub used_after : FrameDecoder → FrameFront → ℕ
used_after x f = used_before x.source.image.size x.used (frame_of f.header) + cells_of (frame_size x.source.image.size (frame_of f.header))

-- What the next frame makes, with all channels; its sections lie in the codestream, and with it the frames are within the limits.
pub record IsMade (x : FrameDecoder) (m : Made) : Type 0 where
  pub frame : IsReadyFrame (bytes_in x.source) (image_in x.source) m.front
  pub sides : AreChannels (image_in x.source) (picture_size x.source.image.size (frame_of m.front.header)) m.pictures.items
  pub singles : AreSinglesIf (picture_size x.source.image.size (frame_of m.front.header)) (singles_in m.singles)
  pub within : used_after x m.front ≤ x.source.limits.pixels

-- the decoder goes on to this state, and the steps in trees are counted
abbrev pub GoesOn : FrameDecoder → Made → ℕ → ℕ → Type 0
GoesOn x m before after = Makes x.source.limits (bytes_in x.source) (image_in x.source) (state_of x) (frame_at m.front) (singles_in m.singles) m.pictures.items
    (state_after (image_in x.source) (state_of x) (frame_at m.front) (singles_in m.singles) m.pictures.items) before after

-- A picture that is shown, of a frame with this header.
pub record IsShownOf (h : Frame) (pictures : List (Grid ℤ)) (shown : ShownFrame) : Type 0 where
  pub displayed : is_displayed h ≡ true
  pub channels : shown.channels.items ≡ pictures
  pub duration : shown.duration ≡ h.frame_use.duration
  pub timecode : shown.timecode ≡ h.frame_use.timecode

-- the picture, if it is shown
abbrev pub IsShownIf : Frame → List (Grid ℤ) → Option ShownFrame → Type 0
IsShownIf h pictures shown = MatchOption shown (is_displayed h ≡ false) (IsShownOf h pictures)
