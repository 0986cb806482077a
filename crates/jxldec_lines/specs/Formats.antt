-- The formats of the output.
use Rattle.std.specs.Prelude.{◌≡◌, ℕ, ℤ, List, Bool, Option, Some, None, if◌then◌else◌}
use Rattle.std.specs.Option.{option_map}
use Rattle.jxlm_base.specs.Grid.{Grid}
use Rattle.jxl_image_header.specs.Images.{Image}
use Rattle.jxl_netpbm.specs.Formats.{suits, text_of, usual}
use Rattle.jxl_png_metadata.specs.Texts.{unless_empty}
use Rattle.jxl_png_write.specs.Headers.{suits_png}
use Rattle.jxl_png_write.specs.Upright.{IsUprightPng}
use Rattle.jxldec_lines.specs.declared.format.OutputFormat.{OutputFormat}
use Rattle.jxldec_lines.specs.declared.format.OutputFormat.TheVariants.{Netpbm, Png}

-- the format can hold the picture
abbrev pub suits_output : OutputFormat → Image → Bool
suits_output (Netpbm format) image = suits format image
suits_output Png image = suits_png image

-- the format in which a picture is written: the one that is asked for, if it suits the picture, or that of its kind
abbrev pub chosen : Option OutputFormat → Image → Option OutputFormat
chosen (Some format) image = if suits_output format image then Some format else None
chosen None image = option_map (λ format. Netpbm format) (usual image)

-- The bytes are those of a picture in a format: in a netpbm format or in decimal numbers its text, which is one; or a PNG file of it, with
-- this profile, these XMP data, and these Exif data made upright.
abbrev pub IsWrittenAs : OutputFormat → Image → List (Grid ℤ) → Option (List ℕ) → Option (List ℕ) → Option (List ℕ) → List ℕ → Type 0
IsWrittenAs (Netpbm format) image channels icc exif xmp text = text ≡ text_of format image channels
IsWrittenAs Png image channels icc exif xmp text = IsUprightPng image channels (unless_empty icc) exif xmp text
