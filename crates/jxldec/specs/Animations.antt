-- The animation of a file, as an APNG file.
use Rattle.std.specs.Prelude.{◌≡◌, ℕ, ◌+◌, List, [], ◌∷◌, ◌++◌, length, min, Option, Some}
use Rattle.jxl_animation.specs.Files.{HasFewerFrames, IsShownOfFile}
use Rattle.jxl_animation.specs.declared.frames.ShownPicture.{ShownPicture}
use Rattle.jxl_apng_write.specs.Animations.{Frame, IsApngFileOf, frame_of}
use Rattle.jxl_apng_write.specs.Delays.{IsDelayOf}
use Rattle.jxl_apng_write.specs.declared.delay.Delay.{Delay}
use Rattle.jxl_container.specs.Metadata.{HasExif, HasXmp}
use Rattle.jxl_image_header.specs.Images.{image_of}
use Rattle.jxl_image_header.specs.declared.image.Animation.{Animation}
use Rattle.jxl_picture.specs.declared.limits.Limits.{Limits}
use Rattle.jxl_png_metadata.specs.Data.{items_if}
use Rattle.jxl_png_metadata.specs.Texts.{unless_empty}
use Rattle.jxldec_lines.specs.declared.format.OutputFormat.TheVariants.{Png}
use Rattle.jxldec_lines.specs.declared.loss.Loss.{Loss}
use Rattle.jxldec.specs.Choices.{IsWrittenIn}

module _ (limits : Limits) (file : List ℕ) (a : Animation) where
  -- The frame of an APNG file is the picture with this number of an animation, for as long as that is shown.
  pub record IsFrameOf (number : ℕ) (frame : Frame) : Type 0 where
    pub shown : ShownPicture
    pub is : IsShownOfFile limits file number shown
    pub moving : (image_of shown.picture.header).animation ≡ Some a
    pub delay : Delay
    pub delay_is : IsDelayOf a shown.duration delay
    pub frame_is : frame ≡ frame_of shown.picture delay

  -- The frames are the pictures of an animation from number 1 on.
  pub data AreLater : List Frame → Type 0 where
    NoFrame : AreLater []
    NextFrame : (frames : List Frame) (frame : Frame) → AreLater frames → IsFrameOf (1 + length frames) frame → AreLater (frames ++ frame ∷ [])

-- The text is the APNG file of all pictures of an animation, with its profile, its Exif and XMP data, and as many plays as a file can
-- have; of its channels these kinds are left out, and of its meaning this.
pub record IsApngText (limits : Limits) (file text others : List ℕ) (loss : Loss) : Type 0 where
  pub animation : Animation
  pub first : Frame
  pub later : List Frame
  pub first_is : IsFrameOf limits file animation 0 first
  pub later_are : AreLater limits file animation later
  pub all : HasFewerFrames limits file (1 + length later)
  pub exif : Option (List ℕ)
  pub exif_is : HasExif file exif
  pub xmp : Option (List ℕ)
  pub xmp_is : HasXmp file xmp
  pub written : IsWrittenIn (Some Png) Png others loss first.image
  pub is : IsApngFileOf (unless_empty (items_if first_is.shown.picture.profile)) exif xmp (min animation.num_loops 0x7FFFFFFF) first later text
