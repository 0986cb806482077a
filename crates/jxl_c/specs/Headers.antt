-- What is known of a file whose headers were read, within the limits that a caller gives.
use Rattle.std.specs.Prelude.{◌≡◌, ◌≢◌, ◌≤◌, ℕ, List, [], Option, Some, None, true, false}
use Rattle.jxl_coding.specs.Parse.{decoder_at}
use Rattle.jxl_coding.specs.Tokens.{entropy}
use Rattle.jxl_codestream.specs.Fronts.{HasProfile}
use Rattle.jxl_image_header.specs.Images.{Image}
use Rattle.jxl_lossless.specs.Files.{upright}
use Rattle.jxl_lossless.specs.Pictures.{FileFails, HasFront}
use Rattle.jxl_lossless.specs.declared.error.FileError.{FileError}
use Rattle.jxl_c.specs.Kinds.{is_small_limits, limits_of}
use Rattle.jxl_c.specs.Statuses.{status_of}
use Rattle.jxl_c.specs.declared.limits.CLimits.{CLimits}

-- The headers of a file, with its profile if it has one: all of it is supported, up to the sections of its frames.
pub record HasHeaders (limits : CLimits) (file : List ℕ) : Type 0 where
  pub known : 40 ≤ limits.size
  pub front : HasFront (limits_of limits) file
  pub icc : Option (List ℕ)
  pub profile : HasProfile (entropy decoder_at) (limits_of limits) front.bytes front.image icc

-- the image header of the picture as it is shown
abbrev pub shown_image : (limits : CLimits) (file : List ℕ) → HasHeaders limits file → Image
shown_image limits file has = upright has.front.image

-- the bytes of a profile; none where there is no profile
abbrev pub profile_bytes : Option (List ℕ) → List ℕ
profile_bytes (Some icc) = icc
profile_bytes None = []

-- The headers need another size of an array than this one.
pub record HasOther (limits : CLimits) (file : List ℕ) (needed : Image → Option (List ℕ) → ℕ) (count : ℕ) : Type 0 where
  pub has : HasHeaders limits file
  pub other : count ≢ needed (shown_image limits file has) has.icc

-- The file has this error, of this status.
pub record HasError (limits : CLimits) (file : List ℕ) (status : ℕ) : Type 0 where
  pub error : FileError
  pub fails : FileFails (limits_of limits) file error
  pub is : status ≡ status_of error

-- A call fails with this status: 8 if the struct of limits is too small; else that of an error of the file.
pub record FailsBy (limits : CLimits) (file : List ℕ) (status : ℕ) : Type 0 where
  pub small : is_small_limits limits ≡ true → status ≡ 8
  pub error : is_small_limits limits ≡ false → HasError limits file status
