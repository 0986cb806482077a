-- The samples of a netpbm file (netpbm: PGM, PPM, PAM and PFM formats).
use Rattle.std.specs.Prelude.{◌≡◌, ℕ, ◌+◌, ◌-◌, ◌*◌, ◌^◌, ◌<◌, ◌≤◌, ℤ, pos, nat_le, List, length, slice_index, if◌then◌else◌, Some}
use Rattle.std.specs.Int.{w32, cast_signed}
use Rattle.jxlm_base.specs.Grid.{Grid, IsFull, cell}
use Rattle.jxl_netpbm_read.specs.Parts.{channel_count}
use Rattle.jxl_netpbm_read.specs.declared.header.Header.{Header}
use Rattle.jxl_netpbm_read.specs.declared.header.Storage.{Storage}
use Rattle.jxl_netpbm_read.specs.declared.header.Storage.TheVariants.{Numbers, Floats}

-- the number of bytes of a sample: one for numbers of up to 8 bits, else two; four for floats
abbrev pub sample_size : Storage → ℕ
sample_size (Numbers bits) = if nat_le bits 8 then 1 else 2
sample_size (Floats little) = 4

-- the row of the file that holds row y of a picture of this height: floats go from bottom to top
abbrev pub file_row : Storage → ℕ → ℕ → ℕ
file_row (Numbers bits) height y = y
file_row (Floats little) height y = height - 1 - y

-- the number of channels, of samples, and of their bytes
abbrev pub channels_of : Header → ℕ
channels_of h = channel_count h.grey h.alpha

abbrev pub sample_count : Header → ℕ
sample_count h = h.width * h.height * channels_of h

abbrev pub samples_size : Header → ℕ
samples_size h = sample_count h * sample_size h.storage

-- the first byte of the sample of channel k in column x of row y: rows of pixels, each with a sample of each channel
abbrev pub sample_place : Header → ℕ → ℕ → ℕ → ℕ
sample_place h k x y = h.start + ((file_row h.storage h.height y * h.width + x) * channels_of h + k) * sample_size h.storage

-- the number of these two or four bytes, the first the most significant
abbrev pub big_16 : List ℕ → ℕ → ℕ
big_16 bytes p = slice_index bytes p * 256 + slice_index bytes (p + 1)

abbrev pub big_32 : List ℕ → ℕ → ℕ
big_32 bytes p = big_16 bytes p * 65536 + big_16 bytes (p + 2)

-- the number of these two or four bytes, the first the least significant
abbrev pub little_16 : List ℕ → ℕ → ℕ
little_16 bytes p = slice_index bytes p + slice_index bytes (p + 1) * 256

abbrev pub little_32 : List ℕ → ℕ → ℕ
little_32 bytes p = little_16 bytes p + little_16 bytes (p + 2) * 65536

-- the number at a byte: a sample, or the bits of a float
abbrev pub number_at : Storage → List ℕ → ℕ → ℕ
number_at (Numbers bits) bytes p = if nat_le bits 8 then slice_index bytes p else big_16 bytes p
number_at (Floats little) bytes p = if little then little_32 bytes p else big_32 bytes p

-- the sample that a number is; that of a float is the number of its bits, as the picture keeps it
abbrev pub sample_of : Storage → ℕ → ℤ
sample_of (Numbers bits) n = pos n
sample_of (Floats little) n = cast_signed w32 n

-- the number is that of a sample: it is not above the maximum
abbrev pub IsSample : Storage → ℕ → Type 0
IsSample (Numbers bits) n = n < 2 ^ bits
IsSample (Floats little) n = Unit {0}

-- the number of the sample of channel k in column x of row y, and the sample
abbrev pub number_in : Header → List ℕ → ℕ → ℕ → ℕ → ℕ
number_in h bytes k x y = number_at h.storage bytes (sample_place h k x y)

abbrev pub sample_in : Header → List ℕ → ℕ → ℕ → ℕ → ℤ
sample_in h bytes k x y = sample_of h.storage (number_in h bytes k x y)

-- the file is long enough for the samples
abbrev pub HasSamples : Header → List ℕ → Type 0
HasSamples h bytes = h.start + samples_size h ≤ length bytes

-- the grid holds the samples of channel k, and none of them is above the maximum
pub record HoldsChannel (h : Header) (bytes : List ℕ) (k : ℕ) (g : Grid ℤ) : Type 0 where
  pub wide : g.width ≡ h.width
  pub high : g.height ≡ h.height
  pub full : IsFull g
  pub within : (x y : ℕ) → x < h.width → y < h.height → IsSample h.storage (number_in h bytes k x y)
  pub cells : (x y : ℕ) → x < h.width → y < h.height → cell g x y ≡ Some (sample_in h bytes k x y)

-- a sample is above the maximum: that of channel k in column x of row y
pub record HasSampleAbove (h : Header) (bytes : List ℕ) : Type 0 where
  pub k : ℕ
  pub x : ℕ
  pub y : ℕ
  pub channel : k < channels_of h
  pub column : x < h.width
  pub in_rows : y < h.height
  pub above : ¬ IsSample h.storage (number_in h bytes k x y)
