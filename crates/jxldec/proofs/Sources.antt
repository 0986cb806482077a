-- The pictures of a file that was read are written in the format that was chosen for it.
use Rattle.std.proofs.Common.{◌≡◌, ℕ, List, Option, Some, ap, refl, sym, ◌∙◌}
use Rattle.jxl_animation.specs.Files.{IsFrameOfFile}
use Rattle.jxl_image_header.specs.Images.{Image, image_of}
use Rattle.jxl_lossless.specs.Files.{IsReadOf, header_of, upright}
use Rattle.jxl_lossless.specs.declared.file.JxlFile.{JxlFile}
use Rattle.jxl_picture.specs.declared.limits.Limits.{Limits}
use Rattle.jxl_picture.specs.declared.picture.Picture.{Picture}
use Rattle.jxldec_lines.specs.Formats.{chosen}
use Rattle.jxldec_lines.specs.Losses.{loss_in}
use Rattle.jxldec_lines.specs.Warnings.{kinds_left_out}
use Rattle.jxldec_lines.specs.declared.format.OutputFormat.{OutputFormat}
use Rattle.jxldec_lines.specs.declared.format.OutputFormat.TheVariants.{Netpbm, Png}
use Rattle.jxldec_lines.specs.declared.loss.Loss.{Loss}
use Rattle.jxldec.proofs.FileReading.{choice_kept, frames_image}
use Rattle.jxldec.specs.Choices.{IsWrittenIn}

-- a format holds the same of the meaning of a picture as it is shown
same_loss : (format : OutputFormat) (image : Image) → loss_in format image ≡ loss_in format (upright image)
same_loss (Netpbm format) image = refl
same_loss Png image = refl

-- each picture has the header of the file, upright
pub same_header : (limits : Limits) (file : List ℕ) (read : JxlFile) → IsReadOf limits file read → (number : ℕ) (picture : Picture) → IsFrameOfFile limits file number picture →
    image_of picture.header ≡ upright (image_of (header_of read))
same_header limits file read is number picture frame = frame.upright.header ∙ ap (λ (i : Image). upright i) (sym (frames_image limits file read is number picture frame))

-- and leaves out what that does
pub written_in : (asked : Option OutputFormat) (format : OutputFormat) (others : List ℕ) (loss : Loss) (image : Image) → chosen asked image ≡ Some format →
    others ≡ kinds_left_out format image.ec_info → loss ≡ loss_in format image → IsWrittenIn asked format others loss (upright image)
written_in asked format others loss image suited without meant = record {
  suited = choice_kept asked image (upright image) format suited refl;
  without = without;
  meant = meant ∙ same_loss format image;
}
