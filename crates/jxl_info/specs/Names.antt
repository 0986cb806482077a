-- The words for what headers say.
use Rattle.std.specs.Prelude.{ℕ, ◌==◌, List, if◌then◌else◌, codes}
use Rattle.jxl_image_header.specs.declared.channel.ExtraChannelKind.{ExtraChannelKind}
use Rattle.jxl_image_header.specs.declared.channel.ExtraChannelKind.TheVariants as kinds
use Rattle.jxl_image_header.specs.declared.colour.ColourSpace.{ColourSpace}
use Rattle.jxl_image_header.specs.declared.colour.ColourSpace.TheVariants as spaces
use Rattle.jxl_image_header.specs.declared.colour.RenderingIntent.{RenderingIntent}
use Rattle.jxl_image_header.specs.declared.colour.RenderingIntent.TheVariants as intents

-- the kinds of extra channels
unfoldable pub kind_name : ExtraChannelKind → List ℕ
kind_name kinds.Alpha = codes "Alpha"
kind_name kinds.Depth = codes "Depth"
kind_name kinds.SpotColour = codes "Spotcolor"
kind_name kinds.SelectionMask = codes "Selection"
kind_name kinds.Black = codes "Black"
kind_name kinds.Cfa = codes "CFA"
kind_name kinds.Thermal = codes "Thermal"
kind_name kinds.Unknown = codes "Unknown"
kind_name kinds.Optional = codes "Optional"

-- how a picture is turned or mirrored
unfoldable pub orientation_name : ℕ → List ℕ
orientation_name n =
    if n == 1 then codes "Normal" else if n == 2 then codes "Flipped horizontally" else if n == 3 then codes "Upside down" else
    if n == 4 then codes "Flipped vertically" else if n == 5 then codes "Transposed" else if n == 6 then codes "90 degrees clockwise" else
    if n == 7 then codes "Anti-Transposed" else codes "90 degrees counter-clockwise"

-- the colour spaces
unfoldable pub space_name : ColourSpace → List ℕ
space_name spaces.Rgb = codes "RGB"
space_name spaces.Grey = codes "Grayscale"
space_name spaces.Xyb = codes "XYB"
space_name spaces.Unknown = codes "Unknown"

-- how colours outside a range are shown
unfoldable pub intent_name : RenderingIntent → List ℕ
intent_name intents.Perceptual = codes "Perceptual"
intent_name intents.Relative = codes "Relative"
intent_name intents.Saturation = codes "Saturation"
intent_name intents.Absolute = codes "Absolute"
