-- A picture whose colours a profile describes (ISO/IEC 18181-1, image header: ColourEncoding).
use Rattle.std.specs.Prelude.{true}
use Rattle.jxl_image_header.specs.Images.{Image}
use Rattle.jxl_image_header.specs.declared.colour.ColourEncoding.{ColourEncoding}
use Rattle.jxl_image_header.specs.declared.colour.ColourSpace.{ColourSpace}
use Rattle.jxl_image_header.specs.declared.colour.Primaries.TheVariants as primary_sets
use Rattle.jxl_image_header.specs.declared.colour.RenderingIntent.TheVariants.{Relative}
use Rattle.jxl_image_header.specs.declared.colour.TransferFunction.TheVariants as functions
use Rattle.jxl_image_header.specs.declared.colour.WhitePoint.TheVariants as whites

-- colours of this space that a profile describes: the other fields are not stored, and are as by default
abbrev pub profile_colour : ColourSpace → ColourEncoding
profile_colour space = record {
  want_icc = true;
  colour_space = space;
  white_point = whites.D65;
  primaries = primary_sets.Srgb;
  transfer_function = functions.Srgb;
  rendering_intent = Relative;
}

-- the header of the same picture with a profile
abbrev pub image_with_profile : Image → Image
image_with_profile image = record image { colour_encoding = profile_colour image.colour_encoding.colour_space }
