-- What is known of what a codestream tells before its sections.
use Rattle.std.specs.Prelude.{◌≡◌, ℕ, ◌≤◌, ◌^◌, ◌&&◌, List, length, drop, map, All, Bool, true, false, Option, None, MatchResult}
use Rattle.std.specs.List.{list_all}
use Rattle.std.specs.Global.{Vec}
use Rattle.std.specs.Option.{option_map}
use Rattle.jxlm_bits.specs.Decoding.{Meaning}
use Rattle.jxlm_transform.specs.Params.{IsGroupDim}
use Rattle.jxl_image_header.specs.Images.{Image, image_header, image_of}
use Rattle.jxl_image_header.specs.declared.image.ImageHeader.{ImageHeader}
use Rattle.jxl_frame_header.specs.Frames.{frame_of, frame_size, has_shifts}
use Rattle.jxl_frame_header.specs.Passes.{IsPassCount}
use Rattle.jxl_codestream.specs.Layouts.{section_count_of}
use Rattle.jxl_codestream.specs.LayoutParts.{parts_of}
use Rattle.jxl_codestream.specs.Tocs.{is_within}
use Rattle.jxl_picture.specs.Limits.{channel_count}
use Rattle.jxl_picture.specs.declared.limits.Limits.{Limits}
use Rattle.jxl_codestream.specs.Fronts.{AreBefore, FrameAt, FrontFails, FrontStands, HasProfile, StandsAt, layout_in}
use Rattle.jxl_codestream.specs.declared.error.FrontError.{FrontError}
use Rattle.jxl_codestream.specs.declared.error.FrontError.TheVariants as errors
use Rattle.jxl_codestream.specs.declared.frame.FrameFront.{FrameFront}
use Rattle.jxl_codestream.specs.declared.front.Frames.{Frames}
use Rattle.jxl_codestream.specs.declared.front.Front.{Front}

-- what was read of a frame, without its memory
abbrev pub frame_at : FrameFront → FrameAt
frame_at f = record { start = f.start; header = frame_of f.header; entries = f.toc.entries.items; trees = f.trees }

-- the shifts of extra channels are at most 3
abbrev pub HasLowShifts : Image → Type 0
HasLowShifts image = All (λ c. c.dim_shift ≤ 3) image.ec_info

-- What decoding a frame needs of it: sides that an image may have, groups, passes, sections that lie in the codestream, and no
-- patches where an extra channel has a size of its own.
pub record IsReadyFrame (bytes : List ℕ) (image : Image) (f : FrameFront) : Type 0 where
  pub inside : f.start ≤ length bytes
  pub wide : (frame_size image.size (frame_of f.header)).width ≤ 2 ^ 30
  pub high : (frame_size image.size (frame_of f.header)).height ≤ 2 ^ 30
  pub dim : IsGroupDim f.header.group_dim
  pub plain : (f.header.coding.flags.patches && has_shifts image) ≡ false
  pub passes : IsPassCount f.header.passes.num_passes
  pub cut : parts_of f.layout ≡ layout_in image (frame_of f.header)
  pub count : length f.toc.entries.items ≡ section_count_of (layout_in image (frame_of f.header))
  pub within : list_all (is_within (length (drop f.start bytes))) f.toc.entries.items ≡ true

-- What decoding the frames of an image needs: so is each of them, samples and channels are not too many, shifts are low, and
-- the frame that is shown covers the picture.
pub record IsReady (bytes : List ℕ) (header : ImageHeader) (frames : Frames) : Type 0 where
  pub deep : header.bit_depth.bits_per_sample ≤ 32
  pub many : channel_count (image_of header) ≤ 2 ^ 20
  pub low : HasLowShifts (image_of header)
  pub saved : All (IsReadyFrame bytes (image_of header)) frames.saved.items
  pub shown : IsReadyFrame bytes (image_of header) frames.shown
  pub covers : frame_size header.size (frame_of frames.shown.header) ≡ header.size

-- a frame begins at this byte, after saved frames with this number of cells
abbrev pub IsNext : {D : Type 0} → Meaning D → Limits → List ℕ → Image → ℕ → ℕ → Type 0
IsNext d limits bytes image start used = (saved : List FrameAt) × AreBefore d limits bytes image saved start used

-- The bits after the image header code the frames that were read, which can be decoded.
pub record AreFramesOf {D : Type 0} (d : Meaning D) (limits : Limits) (bytes : List ℕ) (header : ImageHeader) (frames : Frames) : Type 0 where
  pub stand : FrontStands d limits bytes (image_of header) (map frame_at frames.saved.items) (frame_at frames.shown)
  pub ready : IsReady bytes header frames

-- the bytes, if there are some
abbrev pub bytes_if : Option (Vec ℕ) → Option (List ℕ)
bytes_if bytes = option_map (λ v. v.items) bytes

-- The bits code what was read: the image header, at the start, and the profile and the frames after it; or why these are not
-- decoded.
pub record IsFrontOf {D : Type 0} (d : Meaning D) (limits : Limits) (bytes : List ℕ) (front : Front) : Type 0 where
  pub end : ℕ
  pub header : StandsAt image_header bytes 0 (image_of front.image) end
  pub profile : MatchResult front.frames (λ frames. HasProfile d limits bytes (image_of front.image) (bytes_if front.profile)) (λ error. front.profile ≡ None)
  pub frames : MatchResult front.frames (AreFramesOf d limits bytes front.image) (FrontFails d limits bytes)

-- the error is that of the image header, or comes before it
abbrev pub is_of_header : FrontError → Bool
is_of_header errors.TooLong = true
is_of_header (errors.ImageHeader error) = true
is_of_header error = false
