-- The parts of the front of a still picture, each of whole bytes.
use Rattle.std.specs.Prelude.{ℕ, ◌*◌, List, [], ◌++◌, length, Option, IfSome, is_some}
use Rattle.jxlm_bits.specs.Decoding.{Meaning}
use Rattle.jxl_image_header.specs.Fields.{zero_pad_to_byte}
use Rattle.jxl_image_header.specs.Images.{Image, image_header}
use Rattle.jxl_frame_header.specs.Frames.{frame_header}
use Rattle.jxl_frame_header_write.specs.Stills.{still_frame}
use Rattle.jxl_coding.specs.Parse.{decoder_at}
use Rattle.jxl_coding.specs.Tokens.{entropy}
use Rattle.jxl_codestream.specs.Fronts.{StandsAt, between, profile_if}
use Rattle.jxl_codestream.specs.Tocs.{toc}
use Rattle.jxl_profile_write.specs.Profiles.{AllowProfile}
use Rattle.jxl_codestream_write.specs.Tables.{table_of}

-- the bytes begin with this image header
abbrev pub BeginsWith : Image → List ℕ → Type 0
BeginsWith image bytes = (end : ℕ) × StandsAt image_header (bytes ++ []) 0 image end

-- from bit p up to bit q stands this profile, or none, under each limit that allows it
abbrev pub IsProfileIf : Option (List ℕ) → List ℕ → ℕ → ℕ → Type 0
IsProfileIf icc bytes p q = (limit : ℕ) → IfSome icc (AllowProfile limit) → StandsAt (profile_if (entropy decoder_at) limit (is_some icc)) bytes p icc q

-- The bytes are an image header, padded to a byte: whatever follows them, the reader finds both.
pub record IsImageFront (image : Image) (bytes : List ℕ) : Type 0 where
  pub end : ℕ
  pub header : (rest : List ℕ) → StandsAt image_header (bytes ++ rest) 0 image end
  pub padding : (rest : List ℕ) → StandsAt zero_pad_to_byte (bytes ++ rest) end 0 (8 * length bytes)

-- The bytes are an image header and this profile, or none, padded to a byte: whatever follows them, the reader finds all, under
-- each limit that allows the profile.
pub record IsFrontBefore {D : Type 0} (d : Meaning D) (image : Image) (icc : Option (List ℕ)) (bytes : List ℕ) : Type 0 where
  pub end : ℕ
  pub header : (rest : List ℕ) → StandsAt image_header (bytes ++ rest) 0 image end
  pub stands : (limit : ℕ) → IfSome icc (AllowProfile limit) → (rest : List ℕ) → StandsAt (between d limit image.colour_encoding.want_icc) (bytes ++ rest) end icc (8 * length bytes)

-- The bytes are the header of a still picture's frame and a table of sections of these sizes: whatever follows them, the reader
-- finds both, and the first section begins where they end.
pub record IsFrameFront {D : Type 0} (d : Meaning D) (image : Image) (shift : ℕ) (sizes bytes : List ℕ) : Type 0 where
  pub end : ℕ
  pub header : (rest : List ℕ) → StandsAt (frame_header image) (bytes ++ rest) 0 (still_frame image shift) end
  pub contents : (rest : List ℕ) → StandsAt (toc d (length sizes)) (bytes ++ rest) end (table_of sizes (length bytes)) (8 * length bytes)
