-- The line of colours.
use Rattle.std.specs.Prelude.{ℕ, ◌+◌, ◌/◌, ◌%◌, ◌==◌, ◌||◌, List, [], ◌++◌, if◌then◌else◌, codes}
use Rattle.std.specs.Fmt.{decimal}
use Rattle.jxl_image_header.specs.Colours.{is_grey, is_xyb}
use Rattle.jxl_image_header.specs.declared.colour.Chromaticity.{Chromaticity}
use Rattle.jxl_image_header.specs.declared.colour.ColourEncoding.{ColourEncoding}
use Rattle.jxl_image_header.specs.declared.colour.Primaries.{Primaries}
use Rattle.jxl_image_header.specs.declared.colour.Primaries.TheVariants as primary_sets
use Rattle.jxl_image_header.specs.declared.colour.TransferFunction.{TransferFunction}
use Rattle.jxl_image_header.specs.declared.colour.TransferFunction.TheVariants as functions
use Rattle.jxl_image_header.specs.declared.colour.WhitePoint.{WhitePoint}
use Rattle.jxl_image_header.specs.declared.colour.WhitePoint.TheVariants as whites
use Rattle.jxl_info.specs.Names.{intent_name, space_name}

-- three digits of a number below 1000, and six of one below a million
unfoldable pub three_digits : ℕ → List ℕ
three_digits n = decimal (n / 100) ++ decimal (n / 10 % 10) ++ decimal (n % 10)

abbrev pub six_digits : ℕ → List ℕ
six_digits n = three_digits (n / 1000) ++ three_digits (n % 1000)

-- millionths, with six digits after the point
unfoldable pub millionths : ℕ → List ℕ
millionths n = decimal (n / 1000000) ++ codes "." ++ six_digits (n % 1000000)

-- a coordinate, which is twice its millionths, or for a negative one twice the amount less one
unfoldable pub coordinate_text : ℕ → List ℕ
coordinate_text v = if v % 2 == 0 then millionths (v / 2) else codes "-" ++ millionths (v / 2 + 1)

unfoldable pub point_text : Chromaticity → List ℕ
point_text c = codes "(x=" ++ coordinate_text c.x ++ codes ",y=" ++ coordinate_text c.y ++ codes ")"

unfoldable pub white_text : WhitePoint → List ℕ
white_text whites.D65 = codes "D65"
white_text (whites.Custom point) = codes "Custom, white_point" ++ point_text point
white_text whites.E = codes "E"
white_text whites.Dci = codes "P3"

unfoldable pub primaries_text : Primaries → List ℕ
primaries_text primary_sets.Srgb = codes "sRGB primaries"
primaries_text (primary_sets.Custom c) =
    codes "Custom primaries: red" ++ point_text c.red ++ codes ", green" ++ point_text c.green ++ codes ", blue" ++ point_text c.blue
primaries_text primary_sets.Bt2100 = codes "Rec.2100 primaries"
primaries_text primary_sets.P3 = codes "P3 primaries"

-- an exponent stands in ten millionths, with seven digits after the point
unfoldable pub transfer_text : TransferFunction → List ℕ
transfer_text (functions.Gamma exponent) = codes "gamma(" ++ millionths (exponent / 10) ++ decimal (exponent % 10) ++ codes ")"
transfer_text functions.Bt709 = codes "709"
transfer_text functions.Linear = codes "Linear"
transfer_text functions.Srgb = codes "sRGB"
transfer_text functions.Pq = codes "PQ"
transfer_text functions.Dci = codes "DCI"
transfer_text functions.Hlg = codes "HLG"

-- grey mixes no colours, and XYB has its own white, colours and curve
unfoldable pub mixed_text : ColourEncoding → List ℕ
mixed_text c = if is_grey c.colour_space then [] else codes ", " ++ primaries_text c.primaries

unfoldable pub light_text : ColourEncoding → List ℕ
light_text c =
    if is_xyb c.colour_space then [] else codes ", " ++ white_text c.white_point ++ mixed_text c ++ codes ", " ++ transfer_text c.transfer_function ++ codes " transfer function"

-- what samples of colours mean, by a profile or else in words
unfoldable pub meaning_text : ColourEncoding → List ℕ
meaning_text c = if c.want_icc then codes ", ICC profile" else light_text c ++ codes ", rendering intent: " ++ intent_name c.rendering_intent

unfoldable pub colour_text : ColourEncoding → List ℕ
colour_text c = codes "Color space: " ++ space_name c.colour_space ++ meaning_text c
