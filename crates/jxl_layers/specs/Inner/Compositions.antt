-- What a frame is composed of, as one value.
use Rattle.std.specs.Prelude.{◌≡◌, ℕ, ◌<◌, ◌≤◌, ◌^◌, ℤ, List, [], length, get_or, None}
use Rattle.std.specs.Float.{Float}
use Rattle.jxlm_base.specs.Grid.{Grid, grid}
use Rattle.jxl_image_header.specs.Images.{Image, image_of}
use Rattle.jxl_frame_header.specs.Frames.{Frame, frame_of, frame_size}
use Rattle.jxl_picture.specs.Limits.{channel_count}
use Rattle.jxl_picture.specs.Pictures.{colour_count}
use Rattle.jxl_patches.specs.SavedParts.{slots_of}
use Rattle.jxl_patches.specs.Slots.{AreOfSize, HoldFrames, HoldSingles, IsOfSize, Slots}
use Rattle.jxl_layers.specs.Compositions.{IsLayered, IsShownOver, info_of}
use Rattle.jxl_layers.specs.Refusals.{slot_refusal}
use Rattle.jxl_layers.specs.declared.compose.Composition.{Composition}

abbrev pub image_in : Composition → Image
image_in x = image_of x.image.now

abbrev pub frame_in : Composition → Frame
frame_in x = frame_of x.header.now

abbrev pub slots_in : Composition → Slots
slots_in x = slots_of x.slots.now

-- What composing needs: the frame has all channels, of its size, and so have those that slots hold; those that it is blended with
-- are as large as the picture.
pub record IsReadyComposition (x : Composition) : Type 0 where
  pub many : channel_count (image_in x) ≤ 2 ^ 20
  pub own : AreOfSize (channel_count (image_in x)) (frame_size x.image.now.size (frame_in x)) x.channels.now
  pub held : HoldFrames (channel_count (image_in x)) (slots_in x)
  pub large : (c : ℕ) → slot_refusal x.image.now.size (slots_in x) (info_of (frame_in x) (colour_count (image_in x)) c) ≡ None
  pub singles : HoldSingles (slots_in x)

-- The first n channels of a picture were made: each fills a grid of its size.
pub record AreLayered (image : Image) (h : Frame) (slots : Slots) (channels : List (Grid ℤ)) (n : ℕ) (values : List (Grid Float)) (pictures : List (Grid ℤ)) : Type 0 where
  pub count : length pictures ≡ n
  pub value_count : length values ≡ n
  pub each : (c : ℕ) → c < n → IsLayered image h slots channels c (get_or values c (grid 0 0 []))
  pub shown : (c : ℕ) → c < n → IsShownOver image h slots channels c (get_or values c (grid 0 0 [])) (get_or pictures c (grid 0 0 []))
  pub sides : (c : ℕ) → c < n → IsOfSize image.size (get_or values c (grid 0 0 []))
  pub width : (c : ℕ) → c < n → (get_or pictures c (grid 0 0 [])).width ≡ image.size.width
  pub height : (c : ℕ) → c < n → (get_or pictures c (grid 0 0 [])).height ≡ image.size.height
