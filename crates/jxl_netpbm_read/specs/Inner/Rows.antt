-- Rows and channels that were filled, and why not.
use Rattle.std.specs.Prelude.{◌≡◌, ℕ, ◌<◌, ◌⊎◌, ℤ, List, length, slice_get, Some}
use Rattle.jxlm_base.specs.Grid.{Grid}
use Rattle.jxl_netpbm_read.specs.Samples.{HasSampleAbove, HoldsChannel, IsSample, number_in, sample_in}
use Rattle.jxl_netpbm_read.specs.declared.error.NetpbmError.{NetpbmError}
use Rattle.jxl_netpbm_read.specs.declared.error.NetpbmError.TheVariants.{OutOfMemory, Sample}
use Rattle.jxl_netpbm_read.specs.declared.header.Header.{Header}

-- the row holds samples of channel k: those of row y, of which none is above the maximum
pub record HoldsRow (h : Header) (bytes : List ℕ) (k y : ℕ) (row : List ℤ) : Type 0 where
  pub within : (x : ℕ) → x < h.width → IsSample h.storage (number_in h bytes k x y)
  pub cells : (x : ℕ) → x < h.width → slice_get row x ≡ Some (sample_in h bytes k x y)

-- a sample is above the maximum
abbrev pub FailsRow : Header → List ℕ → NetpbmError → Type 0
FailsRow h bytes e = HasSampleAbove h bytes × (e ≡ Sample)

-- so, or memory is wanting
abbrev pub FailsChannel : Header → List ℕ → NetpbmError → Type 0
FailsChannel h bytes e = (e ≡ OutOfMemory) ⊎ FailsRow h bytes e

-- these are the first n channels
pub record HoldsChannels (h : Header) (bytes : List ℕ) (n : ℕ) (channels : List (Grid ℤ)) : Type 0 where
  pub count : length channels ≡ n
  pub samples : (k : ℕ) (g : Grid ℤ) → slice_get channels k ≡ Some g → HoldsChannel h bytes k g
