-- What samples stand for, as IEEE floats of 32 bits (ISO/IEC 18181-1, image header: BitDepth). Of a depth with the maximum m a
-- sample v stands for v / m. libjxl takes it by these operations on floats, each rounded to the nearest one, and so does this.
use Rattle.std.specs.Prelude.{ℕ, ℤ, pos, to_bits, from_bits}
use Rattle.std.specs.Int.{w32, cast_signed, cast_unsigned}
use Rattle.std.specs.Float.Ieee
use Rattle.std.specs.Float.{Float, binary32, binary64, float_to_signed, round_ties_even, round_to_format}
use Rattle.jxl_blending.specs.declared.scale.Scale.{Scale}
use Rattle.jxl_blending.specs.declared.scale.Scale.TheVariants.{Floats, Coarse, Fine}

-- 0, and 1
abbrev pub single_zero : Float
single_zero = from_bits binary32 0

abbrev pub single_one : Float
single_one = from_bits binary32 0x3f80_0000

-- the float of 32 bits that is nearest to z
abbrev pub nearest_single : ℤ → Float
nearest_single z = Ieee.of_int binary32 z

-- the one nearest to the product of z and 1 / one, both as floats of 64 bits
abbrev pub nearest_part : ℤ → ℕ → Float
nearest_part z one = round_to_format binary32 (Ieee.mul binary64 (Ieee.of_int binary64 z) (Ieee.div binary64 (from_bits binary64 0x3ff0_0000_0000_0000) (Ieee.of_int binary64 (pos one))))

-- the whole number of 32 bits that is nearest to the product of x and one; of two that are as near the even one, and 0 for no number
abbrev pub nearest_sample : Float → ℕ → ℤ
nearest_sample x one = float_to_signed w32 (round_ties_even binary64 (Ieee.mul binary64 x (Ieee.of_int binary64 (pos one))))

-- parts of a sample, by the float of 32 bits that is nearest to one part
abbrev pub coarse_scale : ℕ → Scale
coarse_scale one = Coarse one (Ieee.div binary32 single_one (nearest_single (pos one)))

-- what a sample stands for
abbrev pub loaded : Scale → ℤ → Float
loaded Floats z = from_bits binary32 (cast_unsigned w32 z)
loaded (Coarse one part) z = Ieee.mul binary32 (nearest_single z) part
loaded (Fine one) z = nearest_part z one

-- the sample that stands for x, or is nearest to it
abbrev pub shown : Scale → Float → ℤ
shown Floats x = cast_signed w32 (to_bits binary32 x)
shown (Coarse one part) x = nearest_sample x one
shown (Fine one) x = nearest_sample x one
