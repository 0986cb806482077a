-- The numbers in headers of netpbm files (netpbm: PGM, PPM, PAM and PFM formats).
use Rattle.std.specs.Prelude.{◌≡◌, ℕ, zero, suc, ◌+◌, ◌-◌, ◌^◌, ◌≤◌, ◌==◌, ◌&&◌, nat_le, List, Bool, true, false, if◌then◌else◌, Option, Some, None, Result, Ok, Err}
use Rattle.jxl_netpbm_read.specs.Words.{and_then, number_from}
use Rattle.jxl_netpbm_read.specs.declared.error.NetpbmError.{NetpbmError}
use Rattle.jxl_netpbm_read.specs.declared.error.NetpbmError.TheVariants.{Maximum, Size}
use Rattle.jxl_netpbm_read.specs.declared.header.Header.{Header}
use Rattle.jxl_netpbm_read.specs.declared.header.Storage.{Storage}
use Rattle.jxl_netpbm_read.specs.declared.header.Storage.TheVariants.{Numbers, Floats}
use Rattle.jxl_netpbm_read.specs.declared.words.Number.{Number}

-- the number of bits, at most this one, of numbers up to a maximum, which is 2^n - 1
abbrev pub bits_below : ℕ → ℕ → Option ℕ
bits_below maximum zero = None
bits_below maximum (suc n) = if maximum == 2 ^ suc n - 1 then Some (suc n) else bits_below maximum n

abbrev pub bits_of : ℕ → Option ℕ
bits_of maximum = bits_below maximum 16

-- a side is from 1 to 2^30
abbrev pub is_side : ℕ → Bool
is_side n = nat_le 1 n && nat_le n (2 ^ 30)

-- the side that the next word from position p on writes
abbrev pub as_side : Number → Result Number NetpbmError
as_side n = if is_side n.value then Ok n else Err Size

unfoldable pub side_from : List ℕ → ℕ → Result Number NetpbmError
side_from bytes p = and_then (number_from bytes p) as_side

-- the number of bits of samples up to the maximum that the next word from position p on writes
abbrev pub as_bits : ℕ → Option ℕ → Result Number NetpbmError
as_bits after (Some bits) = Ok (record { value = bits; after = after })
as_bits after None = Err Maximum

unfoldable pub bits_from : List ℕ → ℕ → Result Number NetpbmError
bits_from bytes p = and_then (number_from bytes p) (λ n. as_bits n.after (bits_of n.value))

-- the number of channels of colours, and of all channels
abbrev pub colour_count : Bool → ℕ
colour_count grey = if grey then 1 else 3

abbrev pub channel_count : Bool → Bool → ℕ
channel_count grey alpha = if alpha then colour_count grey + 1 else colour_count grey

-- whole numbers have 1 to 16 bits; with floats there is no alpha
abbrev pub IsStorage : Bool → Storage → Type 0
IsStorage alpha (Numbers bits) = (1 ≤ bits) × (bits ≤ 16)
IsStorage alpha (Floats little) = alpha ≡ false

-- what holds of each header: sides from 1 to 2^30, and a storage
pub record IsHeader (h : Header) : Type 0 where
  pub wide : is_side h.width ≡ true
  pub high : is_side h.height ≡ true
  pub stored : IsStorage h.alpha h.storage
