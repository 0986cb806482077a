-- The format in which a picture is written, and what that leaves out.
use Rattle.std.specs.Prelude.{◌≡◌, ℕ, List, Option, Some}
use Rattle.jxl_image_header.specs.Images.{Image}
use Rattle.jxldec_lines.specs.Formats.{chosen}
use Rattle.jxldec_lines.specs.Losses.{loss_in}
use Rattle.jxldec_lines.specs.Warnings.{kinds_left_out}
use Rattle.jxldec_lines.specs.declared.format.OutputFormat.{OutputFormat}
use Rattle.jxldec_lines.specs.declared.loss.Loss.{Loss}

-- A picture with this header is written in this format, which leaves these kinds of its channels out, and of its meaning this.
pub record IsWrittenIn (asked : Option OutputFormat) (format : OutputFormat) (others : List ℕ) (loss : Loss) (image : Image) : Type 0 where
  pub suited : chosen asked image ≡ Some format
  pub without : others ≡ kinds_left_out format image.ec_info
  pub meant : loss ≡ loss_in format image
