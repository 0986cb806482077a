-- What a frame is decoded from, as one value.
use Rattle.std.specs.Prelude.{◌≤◌, ◌^◌}
use Rattle.jxl_image_header.specs.Images.{Image, image_of}
use Rattle.jxl_image_header.specs.declared.size.Size.{Size}
use Rattle.jxl_frame_header.specs.Frames.{frame_of, frame_size}
use Rattle.jxl_codestream.specs.FrontParts.{HasLowShifts, IsReadyFrame}
use Rattle.jxl_patches.specs.SavedParts.{slots_of}
use Rattle.jxl_patches.specs.Slots.{Slots}
use Rattle.jxl_picture.specs.Limits.{channel_count}
use Rattle.jxl_lossless.specs.Saved.{HoldChannels}
use Rattle.jxl_lossless.specs.declared.frame.FrameInput.{FrameInput}

-- the image that the frame belongs to
abbrev pub image_in : FrameInput → Image
image_in x = image_of x.image.now

-- how large the frame is
abbrev pub size_of : FrameInput → Size
size_of x = frame_size x.image.now.size (frame_of x.frame.now.header)

-- the frames that were saved before it
abbrev pub slots_in : FrameInput → Slots
slots_in x = slots_of x.slots.now

-- What decoding a frame needs: its front was read, samples and channels are not too many, shifts are low, and saved frames have
-- all channels.
pub record IsReadyInput (x : FrameInput) : Type 0 where
  pub frame : IsReadyFrame x.bytes.now (image_in x) x.frame.now
  pub deep : x.image.now.bit_depth.bits_per_sample ≤ 32
  pub many : channel_count (image_in x) ≤ 2 ^ 20
  pub low : HasLowShifts (image_in x)
  pub held : HoldChannels (image_in x) (slots_in x)
