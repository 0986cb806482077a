-- Numbers, the header and a directory of TIFF (TIFF 6.0, section 2).
use Rattle.std.specs.Prelude.{◌≡◌, ◌≢◌, ℕ, ◌+◌, ◌*◌, ◌<◌, ◌≤◌, List, length, slice_index}
use Rattle.jxl_exif.specs.declared.tiff.ByteOrder.{ByteOrder}
use Rattle.jxl_exif.specs.declared.tiff.ByteOrder.TheVariants.{Little, Big}

-- the number of two bytes in this order
abbrev pub u16_of : ByteOrder → ℕ → ℕ → ℕ
u16_of Little first second = first + 256 * second
u16_of Big first second = 256 * first + second

-- the number of the two bytes from a place on
abbrev pub u16_at : ByteOrder → List ℕ → ℕ → ℕ
u16_at order bytes i = u16_of order (slice_index bytes i) (slice_index bytes (i + 1))

-- the number of the four bytes from a place on
abbrev pub u32_at : ByteOrder → List ℕ → ℕ → ℕ
u32_at Little bytes i = u16_at Little bytes i + 65536 * u16_at Little bytes (i + 2)
u32_at Big bytes i = 65536 * u16_at Big bytes i + u16_at Big bytes (i + 2)

-- the byte that a header begins with, twice: I or M
abbrev pub mark : ByteOrder → ℕ
mark Little = 0x49
mark Big = 0x4D

-- The bytes begin with a TIFF header in this byte order: its mark, 42, and the offset of the first directory.
pub record IsTiff (order : ByteOrder) (bytes : List ℕ) : Type 0 where
  pub long : 8 ≤ length bytes
  pub first : slice_index bytes 0 ≡ mark order
  pub second : slice_index bytes 1 ≡ mark order
  pub version : u16_at order bytes 2 ≡ 42

-- the offset of an entry of the directory at this offset: the number of entries has two bytes, and each entry has twelve
abbrev pub entry_of : ℕ → ℕ → ℕ
entry_of ifd k = ifd + 2 + 12 * k

-- The directory at this offset has this entry, whose bytes are all present.
pub record HasEntry (order : ByteOrder) (bytes : List ℕ) (ifd k : ℕ) : Type 0 where
  pub counted : k < u16_at order bytes ifd
  pub within : entry_of ifd k + 12 ≤ length bytes

-- Of the directory's entries with this tag it is the first one.
pub record IsFirst (order : ByteOrder) (bytes : List ℕ) (ifd tag k : ℕ) : Type 0 where
  pub entry : HasEntry order bytes ifd k
  pub tagged : u16_at order bytes (entry_of ifd k) ≡ tag
  pub first : (j : ℕ) → j < k → u16_at order bytes (entry_of ifd j) ≢ tag

-- The entry at this offset is one SHORT: a number of two bytes.
pub record IsShort (order : ByteOrder) (bytes : List ℕ) (entry n : ℕ) : Type 0 where
  pub kind : u16_at order bytes (entry + 2) ≡ 3
  pub count : u32_at order bytes (entry + 4) ≡ 1
  pub value : u16_at order bytes (entry + 8) ≡ n
