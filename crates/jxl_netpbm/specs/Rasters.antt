-- The samples of a picture as bytes of the netpbm formats.
use Rattle.std.specs.Prelude.{ℕ, ◌+◌, ◌-◌, ◌*◌, ◌/◌, ◌%◌, ◌^◌, ◌==◌, ℤ, pos, negsuc, min, nat_lt, List, [], ◌∷◌, if◌then◌else◌}
use Rattle.std.specs.Int.{w32, cast_unsigned, to_le_bytes}
use Rattle.std.specs.List.{flat_map}
use Rattle.jxlm_base.specs.Grid.{Grid, below, at}
use Rattle.jxl_image_header.specs.declared.channel.BitDepth.{BitDepth}
use Rattle.jxl_picture.specs.Floats.{single_bits}

-- the maximum of whole numbers of this number of bits
abbrev pub maximum : ℕ → ℕ
maximum bits = 2 ^ bits - 1

-- the number from 0 to a maximum that is nearest to a sample
abbrev pub level : ℕ → ℤ → ℕ
level most (pos n) = min n most
level most (negsuc n) = 0

-- the number from 0 to `most` that is nearest to a number from 0 to `own`, as parts of their maxima
abbrev pub rescaled_sample : ℕ → ℕ → ℕ → ℕ
rescaled_sample own most n = if own == most then n else (2 * n * most + own) / (2 * own)

-- a number as bytes: one where all up to the maximum fit it, else two, the first the most significant
abbrev pub number_text : ℕ → ℕ → List ℕ
number_text most n = if nat_lt most 256 then n ∷ [] else n / 256 ∷ n % 256 ∷ []

-- a channel, and the maximum of its own numbers
pub record Layer : Type 0 where
  pub grid : Grid ℤ
  pub own : ℕ

module _ (most : ℕ) where
  -- the sample of a channel in column x of row y
  abbrev pub sample_text : ℕ → ℕ → Layer → List ℕ
  sample_text x y layer = number_text most (rescaled_sample layer.own most (level layer.own (at layer.grid x y)))

  -- the samples of all channels there, one after the other
  abbrev pub pixel_text : List Layer → ℕ → ℕ → List ℕ
  pixel_text layers y x = flat_map (sample_text x y) layers

  -- the first n pixels of row y
  abbrev pub pixels_text : List Layer → ℕ → ℕ → List ℕ
  pixels_text layers y n = flat_map (pixel_text layers y) (below n)

  -- the first n rows of `width` pixels, from top to bottom
  abbrev pub raster_text : List Layer → ℕ → ℕ → List ℕ
  raster_text layers width n = flat_map (λ y. pixels_text layers y width) (below n)

module _ (depth : BitDepth) where
  -- floats: the bits of a sample, as a float of 32 bits, as four bytes, the least significant first
  abbrev pub float_text : ℕ → ℕ → Grid ℤ → List ℕ
  float_text x y g = to_le_bytes w32 (single_bits depth (cast_unsigned w32 (at g x y)))

  abbrev pub float_pixels : List (Grid ℤ) → ℕ → ℕ → List ℕ
  float_pixels channels y n = flat_map (λ x. flat_map (float_text x y) channels) (below n)

  -- the last n rows of `height`, from bottom to top
  abbrev pub float_rows : List (Grid ℤ) → ℕ → ℕ → ℕ → List ℕ
  float_rows channels width height n = flat_map (λ k. float_pixels channels (height - 1 - k) width) (below n)
