-- The orientation of a picture in its Exif data (Exif 2.3, 4.6.4: Orientation; TIFF 6.0, section 8): an entry of the first directory.
use Rattle.std.specs.Prelude.{◌≡◌, ◌≢◌, ℕ, ◌+◌, ◌≤◌, ◌⊎◌, List, length, slice_index}
use Rattle.jxl_exif.specs.Tiff.{IsFirst, IsShort, IsTiff, entry_of, u16_at, u32_at}
use Rattle.jxl_exif.specs.declared.tiff.ByteOrder.{ByteOrder}

-- The data say this orientation, from 1 to 8, by the two bytes at this place: the first entry with its tag is one SHORT.
pub record Says (order : ByteOrder) (bytes : List ℕ) (at n : ℕ) : Type 0 where
  pub tiff : IsTiff order bytes
  pub k : ℕ
  pub entry : IsFirst order bytes (u32_at order bytes 4) 0x0112 k
  pub number : IsShort order bytes (entry_of (u32_at order bytes 4) k) n
  pub place : at ≡ entry_of (u32_at order bytes 4) k + 8
  pub least : 1 ≤ n
  pub most : n ≤ 8

-- the data say no orientation
abbrev pub SaysNone : List ℕ → Type 0
SaysNone bytes = (order : ByteOrder) (at n : ℕ) → ¬ Says order bytes at n

-- the orientation in Exif data: the one that they say, else 1
abbrev pub IsOrientationOf : List ℕ → ℕ → Type 0
IsOrientationOf bytes n = ((order : ByteOrder) × (at : ℕ) × Says order bytes at n) ⊎ (SaysNone bytes × (n ≡ 1))

-- The second data are the first ones with orientation 1 at this place, in this byte order.
pub record HasOneAt (order : ByteOrder) (at : ℕ) (old new : List ℕ) : Type 0 where
  pub long : length new ≡ length old
  pub value : u16_at order new at ≡ 1
  pub others : (i : ℕ) → i ≢ at → i ≢ at + 1 → slice_index new i ≡ slice_index old i

-- Exif data for the upright picture: the same, but if they say an orientation, that is 1
abbrev pub IsUprightOf : List ℕ → List ℕ → Type 0
IsUprightOf old new = ((order : ByteOrder) × (at : ℕ) × (n : ℕ) × Says order old at n × HasOneAt order at old new) ⊎ (SaysNone old × (new ≡ old))

-- data have one orientation
abbrev pub HaveOneOrientation : Type 0
HaveOneOrientation = (bytes : List ℕ) (n m : ℕ) → IsOrientationOf bytes n → IsOrientationOf bytes m → n ≡ m
