-- What the frames of a codestream are decoded to.
use Rattle.std.specs.Prelude.{ℕ, ℤ, List}
use Rattle.jxlm_base.specs.Grid.{Grid}
use Rattle.jxl_image_header.specs.Images.{Image, image_of}
use Rattle.jxl_picture.specs.Orientations.{IsUpright}
use Rattle.jxl_picture.specs.declared.picture.Picture.{Picture}
use Rattle.jxl_coding.specs.Parse.{decoder_at}
use Rattle.jxl_coding.specs.Tokens.{entropy}
use Rattle.jxl_codestream.specs.Fronts.{FrameAt}
use Rattle.jxl_lossless.specs.Saved.{AreDecoded}

-- The saved frames are decoded, and the picture's channels are those of the frame that is shown, upright. The steps in trees are
-- counted from `before` to `after`.
pub record IsShown (bytes : List ℕ) (image : Image) (saved : List FrameAt) (shown : FrameAt) (picture : Picture) (before after : ℕ) : Type 0 where
  pub coded : List (Grid ℤ)
  pub decoded : AreDecoded (entropy decoder_at) bytes image saved shown coded before after
  pub upright : IsUpright image coded (image_of picture.header) picture.channels.items
