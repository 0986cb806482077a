-- The headers of a file.
use Rattle.std.specs.Prelude.{◌≡◌, ℕ, List, [], ◌∷◌, nat_eq, not, Bool, true, Option, Some, None, Ok, Err}
use Rattle.std.specs.List.{starts_with}
use Rattle.jxlm_bits.specs.Decoding.{Meaning}
use Rattle.jxl_container.specs.Files.{HasCodestream, UnlessMemory}
use Rattle.jxl_image_header.specs.Images.{Image, image_header}
use Rattle.jxl_picture.specs.declared.limits.Limits.{Limits}
use Rattle.jxl_codestream.specs.Fronts.{FrameAt, FrontFails, FrontStands, StandsAt}
use Rattle.jxl_codestream.specs.declared.error.FrontError.{FrontError}
use Rattle.jxl_info.specs.Reasons.{is_refusal}
use Rattle.jxl_info.specs.Texts.{info_text}
use Rattle.jxl_info.specs.declared.headers.HeadersError.{HeadersError}
use Rattle.jxl_info.specs.declared.headers.HeadersError.TheVariants as errors

-- a file that does not begin as a codestream has boxes
abbrev pub is_boxed : List ℕ → Bool
is_boxed file = not (starts_with nat_eq file (255 ∷ 10 ∷ []))

module _ {D : Type 0} (d : Meaning D) (limits : Limits) where
  -- all that comes before the sections of the frames is in the codestream, under this image header
  pub record IsSupported (bytes : List ℕ) (image : Image) : Type 0 where
    pub saved : List FrameAt
    pub shown : FrameAt
    pub stands : FrontStands d limits bytes image saved shown

  -- the codestream is not decoded for this reason, or where there is none, what comes before the sections of its frames
  -- is supported
  abbrev pub IsReason : List ℕ → Image → Option FrontError → Type 0
  IsReason bytes image None = IsSupported bytes image
  IsReason bytes image (Some error) = (is_refusal error ≡ true) × FrontFails d limits bytes error

  -- a codestream has this image header, and is not decoded for this reason
  pub record HeadersStand (bytes : List ℕ) (image : Image) (reason : Option FrontError) : Type 0 where
    pub end : ℕ
    pub header : StandsAt image_header bytes 0 image end
    pub is : IsReason bytes image reason

  -- so it is of the codestream of a file
  pub record HeadersOfFile (file : List ℕ) (image : Image) (reason : Option FrontError) : Type 0 where
    pub bytes : List ℕ
    pub codestream : HasCodestream file (Ok bytes)
    pub stand : HeadersStand bytes image reason

  -- the codestream of a file has this error before its sections
  pub record FrontOfFileFails (file : List ℕ) (error : FrontError) : Type 0 where
    pub bytes : List ℕ
    pub codestream : HasCodestream file (Ok bytes)
    pub fails : FrontFails d limits bytes error

  -- what each error says of the file
  abbrev pub HeadersFail : List ℕ → HeadersError → Type 0
  HeadersFail file (errors.File error) = UnlessMemory error (HasCodestream file (Err error))
  HeadersFail file (errors.Front error) = FrontOfFileFails file error

  -- the text is what `--info` prints of the file
  pub record IsInfoOfFile (file text : List ℕ) : Type 0 where
    pub image : Image
    pub reason : Option FrontError
    pub headers : HeadersOfFile file image reason
    pub is : text ≡ info_text (is_boxed file) image reason
