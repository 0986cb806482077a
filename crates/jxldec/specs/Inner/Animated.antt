-- An APNG file that is written picture by picture.
use Rattle.std.specs.Prelude.{◌≡◌, ℕ, List, [], ◌∷◌, ◌++◌, Option}
use Rattle.std.specs.Option.{option_copied}
use Rattle.jxl_animation.specs.declared.frames.ShownPicture.{ShownPicture}
use Rattle.jxl_apng_write.specs.Animations.{Frame, frame_of}
use Rattle.jxl_apng_write.specs.Delays.{IsDelayOf}
use Rattle.jxl_apng_write.specs.Writers.{IsWriterOf}
use Rattle.jxl_apng_write.specs.declared.delay.Delay.{Delay}
use Rattle.jxl_apng_write.specs.declared.writer.ApngWriter.{ApngWriter}
use Rattle.jxl_image_header.specs.declared.image.Animation.{Animation}
use Rattle.jxl_png_metadata.specs.Data.{items_if}
use Rattle.jxl_png_metadata.specs.Texts.{unless_empty}
use Rattle.jxldec.specs.declared.content.Beside.{Beside}

-- A file begins with this picture of an animation, for as long as it is shown, with its profile and these data beside it.
pub record BeginsWith (a : Animation) (beside : Beside) (plays : ℕ) (shown : ShownPicture) (w : ApngWriter) : Type 0 where
  pub delay : Delay
  pub delay_is : IsDelayOf a shown.duration delay
  pub is : IsWriterOf (unless_empty (items_if shown.picture.profile)) (option_copied beside.exif) (option_copied beside.xmp) plays (frame_of shown.picture delay) [] w

-- It goes on with this one.
pub record GoesOnWith (a : Animation) (profile exif xmp : Option (List ℕ)) (plays : ℕ) (first : Frame) (others : List Frame) (shown : ShownPicture) (w : ApngWriter) : Type 0 where
  pub delay : Delay
  pub delay_is : IsDelayOf a shown.duration delay
  pub is : IsWriterOf profile exif xmp plays first (others ++ frame_of shown.picture delay ∷ []) w
