-- The pictures of a file, before the first, and what their format leaves out.
use Rattle.std.specs.Prelude.{◌≡◌, ℕ, List, Option, string_bytes}
use Rattle.jxl_animation.specs.Decoders.{HasShown, IsReadyDecoder}
use Rattle.jxl_animation.specs.Files.{IsFrameOfFile}
use Rattle.jxl_container.specs.Files.{HasLaterError}
use Rattle.jxl_image_header.specs.Images.{Image, image_of}
use Rattle.jxl_picture.specs.declared.limits.Limits.{Limits}
use Rattle.jxl_picture.specs.declared.picture.Picture.{Picture}
use Rattle.jxldec_lines.specs.Warnings.{one_frame}
use Rattle.jxldec_lines.specs.declared.format.OutputFormat.{OutputFormat}
use Rattle.jxldec.specs.Choices.{IsWrittenIn}
use Rattle.jxldec.specs.Texts.{IsBeside}
use Rattle.jxldec.specs.declared.frames.FrameSource.{FrameSource}

-- A source of the pictures of a file: all have one header, are written in its format, and leave the same out.
pub record IsSourceOf (limits : Limits) (file : List ℕ) (asked : Option OutputFormat) (s : FrameSource) : Type 0 where
  pub shown : HasShown limits file 0 0 s.decoder
  pub ready : IsReadyDecoder s.decoder
  pub beside : IsBeside file s.beside
  pub image : Image
  pub same : (number : ℕ) (picture : Picture) → IsFrameOfFile limits file number picture → image_of picture.header ≡ image
  pub moving : s.animation ≡ image.animation
  pub written : IsWrittenIn asked s.format (string_bytes s.left_out.channels) s.left_out.loss image
  pub frames : s.left_out.frames ≡ one_frame
  pub later : HasLaterError file s.left_out.later_error
