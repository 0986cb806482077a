-- The pixels of a picture that a call has decoded.
use Rattle.std.specs.Prelude.{◌≡◌, ◌≢◌, ◌⊎◌, ◌*◌, ℕ, List, false, IsTrue}
use Rattle.jxl_image_header.specs.Images.{image_of}
use Rattle.jxl_interleave.specs.Pixels.{interleaved, number_len, pixels_len}
use Rattle.jxl_interleave.specs.declared.depth.Depth.{Depth}
use Rattle.jxl_netpbm.specs.Formats.{suits}
use Rattle.jxl_netpbm.specs.declared.format.Format.TheVariants.{Pam}
use Rattle.jxl_c_picture.specs.declared.info.CInfo.{CInfo}
use Rattle.jxl_c.specs.Decoded.{HasPicture}
use Rattle.jxl_c.specs.Headers.{FailsBy}
use Rattle.jxl_c.specs.declared.limits.CLimits.{CLimits}

-- These are the pixels of the picture of a file.
pub record ArePixelsOfFile (depth : Depth) (limits : CLimits) (file pixels : List ℕ) : Type 0 where
  pub has : HasPicture limits file
  pub suits : IsTrue (suits Pam (image_of has.picture.header))
  pub are : pixels ≡ interleaved depth (image_of has.picture.header) has.picture.channels.items

-- how many bytes the pixels of a picture have, by what a caller is told of it
abbrev pub bytes_by : Depth → CInfo → ℕ
bytes_by depth info = info.width * info.height * info.interleaved * number_len depth

-- Its pixels have another number of bytes.
pub record HasOtherPixels (depth : Depth) (limits : CLimits) (file : List ℕ) (size : ℕ) : Type 0 where
  pub has : HasPicture limits file
  pub suits : IsTrue (suits Pam (image_of has.picture.header))
  pub other : size ≢ pixels_len depth (image_of has.picture.header)

-- Its samples are floats, or have more bits than pixels may have.
pub record HasUnsuited (limits : CLimits) (file : List ℕ) (status : ℕ) : Type 0 where
  pub has : HasPicture limits file
  pub not : suits Pam (image_of has.picture.header) ≡ false
  pub is : status ≡ 4

-- A call fails with this status.
abbrev pub PixelsFailBy : CLimits → List ℕ → ℕ → Type 0
PixelsFailBy limits file status = FailsBy limits file status ⊎ HasUnsuited limits file status
