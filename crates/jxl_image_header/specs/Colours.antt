-- Colour encodings and what the header says of brightness (ISO/IEC 18181-1, image header: ColourEncoding, ToneMapping).
use Rattle.std.specs.Prelude.{ℕ, ◌*◌, ◌==◌, ◌&&◌, ◌||◌, nat_le, nat_lt, Bool, true, false, not, if◌then◌else◌, Option, Some, None, codes}
use Rattle.jxlm_bits.specs.Grammar.{Grammar, number, flag, u32, give, ◌>>=◌}
use Rattle.jxlm_bits.specs.declared.bits.U32Spec.TheVariants.{Offset}
use Rattle.jxl_image_header.specs.Fields.{number_where, enum_number, bundle_follows, variant, when}
use Rattle.jxl_image_header.specs.declared.colour.Chromaticity.{Chromaticity}
use Rattle.jxl_image_header.specs.declared.colour.ColourSpace.{ColourSpace}
use Rattle.jxl_image_header.specs.declared.colour.ColourSpace.TheVariants as spaces
use Rattle.jxl_image_header.specs.declared.colour.CustomPrimaries.{CustomPrimaries}
use Rattle.jxl_image_header.specs.declared.colour.WhitePoint.{WhitePoint}
use Rattle.jxl_image_header.specs.declared.colour.WhitePoint.TheVariants as whites
use Rattle.jxl_image_header.specs.declared.colour.Primaries.{Primaries}
use Rattle.jxl_image_header.specs.declared.colour.Primaries.TheVariants as primary_sets
use Rattle.jxl_image_header.specs.declared.colour.TransferFunction.{TransferFunction}
use Rattle.jxl_image_header.specs.declared.colour.TransferFunction.TheVariants as functions
use Rattle.jxl_image_header.specs.declared.colour.RenderingIntent.{RenderingIntent}
use Rattle.jxl_image_header.specs.declared.colour.RenderingIntent.TheVariants.{Perceptual, Relative, Saturation, Absolute}
use Rattle.jxl_image_header.specs.declared.colour.ColourEncoding.{ColourEncoding}
use Rattle.jxl_image_header.specs.declared.colour.ToneMapping.{ToneMapping}

-- a colour by its coordinates, in millionths, negative ones odd; 0 where they are not there
unfoldable pub coordinate : Bool → Grammar ℕ
coordinate there = when there (u32 (Offset 0 19) (Offset 524288 19) (Offset 1048576 20) (Offset 2097152 21)) 0

unfoldable pub chromaticity : Bool → Grammar Chromaticity
chromaticity there = do give (record { x = (← coordinate there); y = (← coordinate there) })

-- the white points by their numbers (ISO/IEC 18181-1, WhitePoint); 2 has coordinates of its own
abbrev pub white_of : ℕ → Chromaticity → WhitePoint
white_of v custom = if v == 1 then whites.D65 else if v == 2 then whites.Custom custom else if v == 10 then whites.E else whites.Dci

-- the colour of white: its number, by default 1, and for 2 its coordinates
unfoldable pub white_point : Bool → Grammar WhitePoint
white_point there = do
  number ← when there (number_where (codes "WhitePoint") (λ v. (v == 1) || (v == 2) || (v == 10) || (v == 11)) enum_number) 1
  give (white_of number (← chromaticity (number == 2)))

-- the three colours that are mixed: their number, by default 1, and for 2 their coordinates
unfoldable pub custom_primaries : Bool → Grammar CustomPrimaries
custom_primaries there = do
  give (record { red = (← chromaticity there); green = (← chromaticity there); blue = (← chromaticity there) })

-- the primaries by their numbers (ISO/IEC 18181-1, Primaries); 2 has coordinates of its own
abbrev pub primaries_of : ℕ → CustomPrimaries → Primaries
primaries_of v custom = if v == 1 then primary_sets.Srgb else if v == 2 then primary_sets.Custom custom else if v == 9 then primary_sets.Bt2100 else primary_sets.P3

unfoldable pub primaries : Bool → Grammar Primaries
primaries there = do
  number ← when there (number_where (codes "Primaries") (λ v. (v == 1) || (v == 2) || (v == 9) || (v == 11)) enum_number) 1
  give (primaries_of number (← custom_primaries (number == 2)))

-- the transfer functions by their numbers (ISO/IEC 18181-1, TransferFunction); 0 is the one with this exponent
abbrev pub function_of : ℕ → ℕ → TransferFunction
function_of v gamma =
    if v == 0 then functions.Gamma gamma else if v == 1 then functions.Bt709 else if v == 8 then functions.Linear else
    if v == 13 then functions.Srgb else if v == 16 then functions.Pq else if v == 17 then functions.Dci else functions.Hlg

-- how light follows from samples: by its exponent in 10 millionths, from 1 in 8192 to 1, or by a curve, 13 by default
unfoldable pub transfer_function : Bool → Grammar TransferFunction
transfer_function there = do
  by_gamma ← when there flag false
  gamma ← when by_gamma (number_where (codes "gamma") (λ v. nat_le v 10000000 && nat_le 10000000 (8192 * v)) (number 24)) 0
  let is_curve : ℕ → Bool = λ v. (v == 1) || (v == 8) || (v == 13) || (v == 16) || (v == 17) || (v == 18)
  number ← when (not by_gamma) (when there (number_where (codes "TransferFunction") is_curve enum_number) 13) 0
  give (function_of number gamma)

-- the colour spaces by their numbers (ISO/IEC 18181-1, ColourSpace); 3 only where a profile tells it
abbrev pub space_of : Bool → ℕ → Option ColourSpace
space_of profile v =
    if v == 0 then Some spaces.Rgb else if v == 1 then Some spaces.Grey else if v == 2 then Some spaces.Xyb else
    if (v == 3) && profile then Some spaces.Unknown else None

abbrev pub is_grey : ColourSpace → Bool
is_grey spaces.Grey = true
is_grey other = false

abbrev pub is_xyb : ColourSpace → Bool
is_xyb spaces.Xyb = true
is_xyb other = false

-- the rendering intents by their numbers (ISO/IEC 18181-1, RenderingIntent)
abbrev pub intent_of : ℕ → Option RenderingIntent
intent_of v =
    if v == 0 then Some Perceptual else if v == 1 then Some Relative else if v == 2 then Some Saturation else if v == 3 then Some Absolute else None

-- the colours of an image, by default sRGB: whether by a profile; the kind (red, green and blue; grey; XYB; one that only
-- a profile tells); and, where no profile tells them, white and curve unless the kind is XYB, what is mixed unless it is
-- grey or XYB, and how colours outside a range are shown
unfoldable pub colour_encoding : Bool → Grammar ColourEncoding
colour_encoding there = do
  follows ← bundle_follows there
  profile ← when follows flag false
  space ← when follows (variant (codes "ColourSpace") (space_of profile)) spaces.Rgb
  let explicit = follows && not profile
  white ← white_point (explicit && not (is_xyb space))
  mixed ← primaries (explicit && not (is_grey space || is_xyb space))
  function ← transfer_function (explicit && not (is_xyb space))
  intent ← when explicit (variant (codes "RenderingIntent") intent_of) Relative
  give (record { want_icc = profile; colour_space = space; white_point = white; primaries = mixed; transfer_function = function; rendering_intent = intent })

-- Floats of 16 bits are kept as their bits. From 0 on, the order of the bits is that of the numbers up to 0x7BFF; 0x7C00 is
-- infinite, and those above are no numbers. 0x8000 is 0 again, and those above it are below 0, infinite or no numbers.
-- a float that is above 0; one from 0 to this one
abbrev pub is_positive : ℕ → Bool
is_positive v = nat_lt 0 v && nat_lt v 0x7C00

abbrev pub is_up_to : ℕ → ℕ → Bool
is_up_to most v = nat_le v most || (v == 0x8000)

-- the maximum of `linear_below`: 1 where it is relative to the display's maximum, else the greatest number
abbrev pub linear_limit : Bool → ℕ
linear_limit relative = if relative then 0x3C00 else 0x7BFF

-- brightness, as floats of 16 bits: by default 255, 0, not relative, 0. The first is above 0, the second from 0 to the first.
unfoldable pub tone_mapping : Bool → Grammar ToneMapping
tone_mapping there = do
  follows ← bundle_follows there
  target ← when follows (number_where (codes "intensity_target") is_positive (number 16)) 0x5BF8
  least ← when follows (number_where (codes "min_nits") (is_up_to target) (number 16)) 0
  relative ← when follows flag false
  below ← when follows (number_where (codes "linear_below") (is_up_to (linear_limit relative)) (number 16)) 0
  give (record { intensity_target = target; min_nits = least; relative_to_max_display = relative; linear_below = below })
