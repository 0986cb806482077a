-- The numbers by which white points, primaries and transfer functions are spelled, and what follows them.
use Rattle.std.specs.Prelude.{◌≡◌, ℕ, ◌==◌, ◌||◌, true, false, Option, Some, None}
use Rattle.jxlm_bits.specs.declared.bits.U32Spec.TheVariants.{Const, Offset}
use Rattle.jxlm_bit_writer.specs.Fields.{is_spelled}
use Rattle.jxl_image_header.specs.declared.colour.Chromaticity.{Chromaticity}
use Rattle.jxl_image_header.specs.declared.colour.CustomPrimaries.{CustomPrimaries}
use Rattle.jxl_image_header.specs.declared.colour.WhitePoint.{WhitePoint}
use Rattle.jxl_image_header.specs.declared.colour.WhitePoint.TheVariants as whites
use Rattle.jxl_image_header.specs.declared.colour.Primaries.{Primaries}
use Rattle.jxl_image_header.specs.declared.colour.Primaries.TheVariants as primary_sets
use Rattle.jxl_image_header.specs.declared.colour.TransferFunction.{TransferFunction}
use Rattle.jxl_image_header.specs.declared.colour.TransferFunction.TheVariants as functions
use Rattle.jxl_image_header.specs.Colours.{white_of, primaries_of, function_of}
use Rattle.jxl_image_header_write.specs.Writable.{is_usual_white, is_usual_primaries, is_usual_function}

-- the coordinates of a white point, and of primaries; 0 where they have a number of their own
abbrev pub no_chromaticity : Chromaticity
no_chromaticity = record { x = 0; y = 0 }

abbrev pub no_primaries : CustomPrimaries
no_primaries = record { red = no_chromaticity; green = no_chromaticity; blue = no_chromaticity }

abbrev pub white_coordinates : WhitePoint → Chromaticity
white_coordinates (whites.Custom c) = c
white_coordinates other = no_chromaticity

abbrev pub primaries_coordinates : Primaries → CustomPrimaries
primaries_coordinates (primary_sets.Custom c) = c
primaries_coordinates other = no_primaries

-- the exponent of a transfer function, if it has one
abbrev pub exponent_of : TransferFunction → Option ℕ
exponent_of (functions.Gamma g) = Some g
exponent_of other = None

-- the number of a white point
pub record IsWhiteNumber (v : ℕ) (white : WhitePoint) : Type 0 where
  pub spelled : is_spelled (Const 0) (Const 1) (Offset 2 4) (Offset 18 6) v ≡ true
  pub known : ((v == 1) || (v == 2) || (v == 10) || (v == 11)) ≡ true
  pub named : (v == 2) ≡ false → white_coordinates white ≡ no_chromaticity
  pub meant : white_of v (white_coordinates white) ≡ white
  pub usual : is_usual_white white ≡ true → v ≡ 1

-- the number of primaries
pub record IsPrimariesNumber (v : ℕ) (primaries : Primaries) : Type 0 where
  pub spelled : is_spelled (Const 0) (Const 1) (Offset 2 4) (Offset 18 6) v ≡ true
  pub known : ((v == 1) || (v == 2) || (v == 9) || (v == 11)) ≡ true
  pub named : (v == 2) ≡ false → primaries_coordinates primaries ≡ no_primaries
  pub meant : primaries_of v (primaries_coordinates primaries) ≡ primaries
  pub usual : is_usual_primaries primaries ≡ true → v ≡ 1

-- the number of a curve
pub record IsCurveNumber (v : ℕ) (function : TransferFunction) : Type 0 where
  pub spelled : is_spelled (Const 0) (Const 1) (Offset 2 4) (Offset 18 6) v ≡ true
  pub known : ((v == 1) || (v == 8) || (v == 13) || (v == 16) || (v == 17) || (v == 18)) ≡ true
  pub meant : (gamma : ℕ) → function_of v gamma ≡ function
  pub usual : is_usual_function function ≡ true → v ≡ 13
