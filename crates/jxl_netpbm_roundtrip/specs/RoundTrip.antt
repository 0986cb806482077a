-- Pictures that are written as netpbm files, and read again.
use Rattle.std.specs.Prelude.{◌≡◌, ◌≢◌, ℕ, ◌<◌, ◌^◌, ℤ, List, length, slice_get, true, Some}
use Rattle.jxlm_base.specs.Grid.{Grid, IsFull, cell}
use Rattle.jxl_netpbm.specs.Formats.{left_out, suits, text_of}
use Rattle.jxl_netpbm.specs.declared.format.Format.{Format}
use Rattle.jxl_netpbm.specs.declared.format.Format.TheVariants.{Text}
use Rattle.jxl_netpbm_read.specs.Files.{IsNetpbmOf, image_by}
use Rattle.jxl_netpbm_read.specs.Parts.{IsHeader}
use Rattle.jxl_netpbm_read.specs.Samples.{IsSample, channels_of, sample_of}
use Rattle.jxl_netpbm_read.specs.declared.header.Header.{Header}

-- a channel of a picture with this header: each of its samples is one that a file can hold
pub record IsChannel (h : Header) (g : Grid ℤ) : Type 0 where
  pub wide : g.width ≡ h.width
  pub high : g.height ≡ h.height
  pub full : IsFull g
  pub samples : (x y : ℕ) → x < h.width → y < h.height → (n : ℕ) × (n < 2 ^ 32) × IsSample h.storage n × (cell g x y ≡ Some (sample_of h.storage n))

-- The text of a picture that a netpbm file can hold, in a format that leaves out nothing of it, is a file of this picture.
abbrev pub WrittenAreRead : Type 0
WrittenAreRead = (format : Format) (h : Header) (channels : List (Grid ℤ)) → IsHeader h → format ≢ Text → suits format (image_by h) ≡ true → left_out format (image_by h) ≡ 0 →
    length channels ≡ channels_of h → ((k : ℕ) (g : Grid ℤ) → slice_get channels k ≡ Some g → IsChannel h g) →
    IsNetpbmOf (text_of format (image_by h) channels) (image_by h) channels
