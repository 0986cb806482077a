-- The numbers of what a header names, as the standard has them (ISO/IEC 18181-1, image header: ColourEncoding, ExtraChannelType).
use Rattle.std.specs.Prelude.{ℕ}
use Rattle.jxl_image_header.specs.declared.channel.ExtraChannelKind.{ExtraChannelKind}
use Rattle.jxl_image_header.specs.declared.channel.ExtraChannelKind.TheVariants as kinds
use Rattle.jxl_image_header.specs.declared.colour.ColourSpace.{ColourSpace}
use Rattle.jxl_image_header.specs.declared.colour.ColourSpace.TheVariants as spaces
use Rattle.jxl_image_header.specs.declared.colour.Primaries.{Primaries}
use Rattle.jxl_image_header.specs.declared.colour.Primaries.TheVariants as primary_sets
use Rattle.jxl_image_header.specs.declared.colour.RenderingIntent.{RenderingIntent}
use Rattle.jxl_image_header.specs.declared.colour.RenderingIntent.TheVariants as intents
use Rattle.jxl_image_header.specs.declared.colour.TransferFunction.{TransferFunction}
use Rattle.jxl_image_header.specs.declared.colour.TransferFunction.TheVariants as functions
use Rattle.jxl_image_header.specs.declared.colour.WhitePoint.{WhitePoint}
use Rattle.jxl_image_header.specs.declared.colour.WhitePoint.TheVariants as whites

-- of a colour space
abbrev pub space_number : ColourSpace → ℕ
space_number spaces.Rgb = 0
space_number spaces.Grey = 1
space_number spaces.Xyb = 2
space_number spaces.Unknown = 3

-- of a white point, 2 for one by its coordinates
abbrev pub white_number : WhitePoint → ℕ
white_number whites.D65 = 1
white_number (whites.Custom c) = 2
white_number whites.E = 10
white_number whites.Dci = 11

-- of primaries, 2 for those by their coordinates
abbrev pub primaries_number : Primaries → ℕ
primaries_number primary_sets.Srgb = 1
primaries_number (primary_sets.Custom c) = 2
primaries_number primary_sets.Bt2100 = 9
primaries_number primary_sets.P3 = 11

-- of a transfer function, 0 for one by its exponent
abbrev pub transfer_number : TransferFunction → ℕ
transfer_number (functions.Gamma g) = 0
transfer_number functions.Bt709 = 1
transfer_number functions.Linear = 8
transfer_number functions.Srgb = 13
transfer_number functions.Pq = 16
transfer_number functions.Dci = 17
transfer_number functions.Hlg = 18

-- its exponent, in 10 millionths, or 0 for a curve
abbrev pub gamma_of : TransferFunction → ℕ
gamma_of (functions.Gamma g) = g
gamma_of other = 0

-- of a rendering intent
abbrev pub intent_number : RenderingIntent → ℕ
intent_number intents.Perceptual = 0
intent_number intents.Relative = 1
intent_number intents.Saturation = 2
intent_number intents.Absolute = 3

-- of a kind of extra channels
abbrev pub kind_number : ExtraChannelKind → ℕ
kind_number kinds.Alpha = 0
kind_number kinds.Depth = 1
kind_number kinds.SpotColour = 2
kind_number kinds.SelectionMask = 3
kind_number kinds.Black = 4
kind_number kinds.Cfa = 5
kind_number kinds.Thermal = 6
kind_number kinds.Unknown = 15
kind_number kinds.Optional = 16
