-- Floats of fewer bits as floats of 32 bits (ISO/IEC 18181-1, image header: BitDepth; ISO/IEC 60559, binary formats).
use Rattle.std.specs.Prelude.{◌≡◌, ℕ, ◌+◌, ◌-◌, ◌*◌, ◌/◌, ◌%◌, ◌^◌, ◌==◌, ◌||◌, not, Bool, true, false, if◌then◌else◌}
use Rattle.std.specs.Int.{w32, leading_zeros}
use Rattle.jxl_image_header.specs.Channels.{fits_float}
use Rattle.jxl_image_header.specs.declared.channel.BitDepth.{BitDepth}

-- how many bits a float's mantissa has: those beside the sign and the exponent
abbrev pub mantissa_bits : BitDepth → ℕ
mantissa_bits d = d.bits_per_sample - 1 - d.exp_bits

-- what is taken off an exponent of this number of bits: 15 where there are 5 bits, 127 where there are 8
abbrev pub bias : ℕ → ℕ
bias exp = 2 ^ (exp - 1) - 1

-- a float by its parts
pub record Float : Type 0 where
  pub negative : Bool
  pub exponent : ℕ
  pub mantissa : ℕ

-- The float whose bits are this number: the mantissa, above it the exponent, and above that the sign. It is negative if any bit
-- above the exponent is set.
abbrev pub float_of : BitDepth → ℕ → Float
float_of d n = record {
  negative = not (n / 2 ^ (d.bits_per_sample - 1) == 0);
  exponent = n / 2 ^ mantissa_bits d % 2 ^ d.exp_bits;
  mantissa = n % 2 ^ mantissa_bits d;
}

-- a float is neither infinite nor NaN
abbrev pub is_finite : BitDepth → Float → Bool
is_finite d f = not (f.exponent == 2 ^ d.exp_bits - 1)

-- The amount of a finite float is this fraction. Where the exponent is not 0, a one that is not stored comes before the mantissa;
-- where it is 0, it counts as 1.
abbrev pub numerator : BitDepth → Float → ℕ
numerator d f = if f.exponent == 0 then f.mantissa * 2 else (2 ^ mantissa_bits d + f.mantissa) * 2 ^ f.exponent

abbrev pub denominator : BitDepth → ℕ
denominator d = 2 ^ (bias d.exp_bits + mantissa_bits d)

-- the depth of floats of 32 bits
abbrev pub single : BitDepth
single = record { bits_per_sample = 32; exp_bits = 8 }

-- The second, a float of 32 bits, is the first one: it has the same sign, and the same amount or the same bits of an infinity or NaN.
pub record IsSame (d : BitDepth) (f wide : Float) : Type 0 where
  pub sign : wide.negative ≡ f.negative
  pub finite : is_finite single wide ≡ is_finite d f
  pub amount : is_finite d f ≡ true → numerator single wide * denominator d ≡ numerator d f * denominator single
  pub other : is_finite d f ≡ false → wide.mantissa ≡ f.mantissa * 2 ^ (23 - mantissa_bits d)

-- the bits of an exponent of 8 bits, and of a mantissa of 23
abbrev pub magnitude : ℕ → ℕ → ℕ
magnitude exponent mantissa = exponent * 2 ^ 23 + mantissa

-- Of a float with the exponent 0: among floats of 32 bits it has a larger one. The mantissa, of 23 bits, is shifted until it begins
-- with the one that is not stored.
abbrev pub subnormal_magnitude : ℕ → ℕ → ℕ
subnormal_magnitude exp m =
    magnitude (128 - bias exp - (leading_zeros w32 m - 8)) (m * 2 ^ (leading_zeros w32 m - 8) - 2 ^ 23)

-- Of a float with an exponent of `exp` bits, and a mantissa that was shifted to 23 bits: infinity and NaN keep the mantissa; other
-- exponents get the bias of 8 bits.
abbrev pub wide_magnitude : ℕ → ℕ → ℕ → ℕ
wide_magnitude exp e m =
    if e == 2 ^ exp - 1 then magnitude 255 m else
    if not (e == 0) then magnitude (e + (127 - bias exp)) m else
    if (exp == 8) || (m == 0) then magnitude 0 m else subnormal_magnitude exp m

-- the bits of a float with the sign, the exponent and the mantissa of this one
abbrev pub wide_bits : BitDepth → Float → ℕ
wide_bits d f = (if f.negative then 2 ^ 31 else 0) + wide_magnitude d.exp_bits f.exponent (f.mantissa * 2 ^ (23 - mantissa_bits d))

-- the bits of the float of 32 bits that the float with these bits is
abbrev pub single_bits : BitDepth → ℕ → ℕ
single_bits d n = wide_bits d (float_of d n)

-- Each float is, as one of 32 bits, the same float.
abbrev pub AreExact : Type 0
AreExact = (d : BitDepth) (n : ℕ) → fits_float d.bits_per_sample d.exp_bits ≡ true → IsSame d (float_of d n) (float_of single (single_bits d n))
