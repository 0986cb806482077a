-- Rows of a picture as bytes.
use Rattle.std.specs.Prelude.{◌≡◌, ℕ, ◌+◌, ◌-◌, ◌*◌, ◌^◌, ◌<◌, ◌≤◌, ℤ, List, length, nat_lt, IsTrue, if◌then◌else◌}
use Rattle.std.specs.List.{All, flat_map}
use Rattle.jxlm_base.specs.Grid.{Grid, below, row}
use Rattle.jxl_image_header.specs.Channels.{fits_float}
use Rattle.jxl_text.specs.Printing.{line, row_text as numbers_text}
use Rattle.jxl_netpbm.specs.Rasters.{float_pixels, pixels_text}
use Rattle.jxl_netpbm.specs.Layers.{AllCover, AllHave, layers_of}
use Rattle.jxl_netpbm.specs.declared.raster.Raster.{Raster}
use Rattle.jxl_netpbm.specs.declared.raster.Samples.{Samples}
use Rattle.jxl_netpbm.specs.declared.raster.Samples.TheVariants.{Numbers, Floats, Decimals}

-- how many bytes a number has
abbrev pub number_len : ℕ → ℕ
number_len most = if nat_lt most 256 then 1 else 2

abbrev pub samples_within : ℕ → ℕ → Samples → Type 0
samples_within w h (Numbers most layers) = (most < 2 ^ 16) × AllCover w h layers.now
samples_within w h (Floats depth channels) = IsTrue (fits_float depth.bits_per_sample depth.exp_bits) × AllHave w h channels.now
samples_within w h (Decimals channel) = (channel.now.width ≡ w) × (channel.now.height ≡ h)

-- each channel has the rows' columns, and as many rows; one in decimal numbers has no others
abbrev pub IsWithin : Raster → Type 0
IsWithin r = samples_within r.width r.height r.samples

-- how many bytes the line of n numbers has at most: each has at most 11, and a space or the end of the line
abbrev pub line_room : ℕ → ℕ
line_room n = n * 12 + 1

abbrev pub samples_room : ℕ → Samples → ℕ
samples_room w (Numbers most layers) = w * (length layers.now * number_len most)
samples_room w (Floats depth channels) = w * (length channels.now * 4)
samples_room w (Decimals channel) = line_room w

-- how many bytes a row has at most
abbrev pub row_room : Raster → ℕ
row_room r = samples_room r.width r.samples

abbrev pub samples_text : ℕ → ℕ → Samples → ℕ → List ℕ
samples_text w h (Numbers most layers) k = pixels_text most (layers_of layers.now) k w
samples_text w h (Floats depth channels) k = float_pixels depth channels.now (h - 1 - k) w
samples_text w h (Decimals channel) k = line (numbers_text (row channel.now k))

-- row k as bytes
abbrev pub row_text : Raster → ℕ → List ℕ
row_text r k = samples_text r.width r.height r.samples k

-- the first n rows
abbrev pub rows_text : Raster → ℕ → List ℕ
rows_text r n = flat_map (row_text r) (below n)

-- a piece of n bytes has room for each line of these channels in decimal numbers
pub record HasRoom (channels : List (Grid ℤ)) (n : ℕ) : Type 0 where
  pub heading : 71 ≤ n
  pub rows : All (λ g. line_room g.width ≤ n) channels
