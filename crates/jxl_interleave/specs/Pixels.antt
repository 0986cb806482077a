-- The pixels of a picture as bytes: row by row, and of each pixel the numbers of its channels side by side.
use Rattle.std.specs.Prelude.{ℕ, ◌*◌, ◌/◌, ◌%◌, ℤ, List, [], ◌∷◌}
use Rattle.std.specs.List.{flat_map}
use Rattle.jxlm_base.specs.Grid.{Grid, at, below}
use Rattle.jxl_image_header.specs.Images.{Image}
use Rattle.jxl_netpbm.specs.Formats.{pam_layers, tuple_count}
use Rattle.jxl_netpbm.specs.Rasters.{Layer, level, rescaled_sample}
use Rattle.jxl_interleave.specs.declared.depth.Depth.{Depth}
use Rattle.jxl_interleave.specs.declared.depth.Depth.TheVariants.{Eight, Sixteen}

-- the maximum of the numbers
abbrev pub maximum : Depth → ℕ
maximum Eight = 255
maximum Sixteen = 65535

-- how many bytes a number has
abbrev pub number_len : Depth → ℕ
number_len Eight = 1
number_len Sixteen = 2

-- a number as bytes, the least significant first
abbrev pub number_bytes : Depth → ℕ → List ℕ
number_bytes Eight n = n ∷ []
number_bytes Sixteen n = n % 256 ∷ n / 256 ∷ []

module _ (depth : Depth) where
  -- the sample of a channel in column x of row y, as a part of its maximum
  abbrev pub sample_bytes : ℕ → ℕ → Layer → List ℕ
  sample_bytes x y layer = number_bytes depth (rescaled_sample layer.own (maximum depth) (level layer.own (at layer.grid x y)))

  -- the samples of all channels there, one after another
  abbrev pub pixel_bytes : List Layer → ℕ → ℕ → List ℕ
  pixel_bytes layers y x = flat_map (sample_bytes x y) layers

  -- the first n pixels of row y
  abbrev pub row_bytes : List Layer → ℕ → ℕ → List ℕ
  row_bytes layers y n = flat_map (pixel_bytes layers y) (below n)

  -- the first n rows of `width` pixels, from top to bottom
  abbrev pub rows_bytes : List Layer → ℕ → ℕ → List ℕ
  rows_bytes layers width n = flat_map (λ y. row_bytes layers y width) (below n)

  -- all pixels of a picture: of colours, and of the first alpha channel of the picture's size, if there is one
  abbrev pub interleaved : Image → List (Grid ℤ) → List ℕ
  interleaved image channels = rows_bytes (pam_layers image channels) image.size.width image.size.height

  -- how many bytes they have
  abbrev pub pixels_len : Image → ℕ
  pixels_len image = image.size.height * image.size.width * (tuple_count image * number_len depth)
