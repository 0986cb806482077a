-- The checksum of an image: FNV-1a of 64 bits over the bytes of its samples.
use Rattle.std.specs.Prelude.{ℕ, ◌*◌, ◌%◌, ◌^◌, ℤ, List, bit_xor}
use Rattle.std.specs.Int.{w32, cast_unsigned, to_le_bytes}
use Rattle.std.specs.List.{fold, flat_map}
use Rattle.jxlm_base.specs.Grid.{Grid, below, row}

-- where each sum starts
abbrev pub offset_basis : ℕ
offset_basis = 14695981039346656037

-- the sum with one byte more: exclusive or, and then times the prime
abbrev pub with_byte : ℕ → ℕ → ℕ
with_byte sum byte = bit_xor sum byte * 1099511628211 % 2 ^ 64

-- the four bytes of a sample in 32 bits, the least significant first
abbrev pub sample_bytes : ℤ → List ℕ
sample_bytes v = to_le_bytes w32 (cast_unsigned w32 v)

-- the samples of a channel, row by row
abbrev pub channel_samples : Grid ℤ → List ℤ
channel_samples g = flat_map (row g) (below g.height)

-- the samples of an image, channel by channel
abbrev pub image_samples : List (Grid ℤ) → List ℤ
image_samples grids = flat_map channel_samples grids

-- the sum with these samples more
abbrev pub with_samples : ℕ → List ℤ → ℕ
with_samples sum samples = fold with_byte sum (flat_map sample_bytes samples)

-- the checksum of an image
abbrev pub checksum : List (Grid ℤ) → ℕ
checksum grids = with_samples offset_basis (image_samples grids)

-- the checksum of bytes
abbrev pub bytes_checksum : List ℕ → ℕ
bytes_checksum bytes = fold with_byte offset_basis bytes
