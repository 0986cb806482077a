-- What a still picture has before its sections (ISO/IEC 18181-1, codestream: image header, frame header, table of contents).
use Rattle.std.specs.Prelude.{◌≡◌, ℕ, List, [], ◌++◌, length, map, take, drop, Option, IfSome, Ok}
use Rattle.std.specs.List.{flat_map}
use Rattle.jxlm_bits.specs.Decoding.{Meaning}
use Rattle.jxl_container.specs.Files.{HasCodestream}
use Rattle.jxl_image_header.specs.Images.{Image}
use Rattle.jxl_frame_header_write.specs.Stills.{still_frame}
use Rattle.jxl_picture.specs.Limits.{Allow, tree_limits}
use Rattle.jxl_picture.specs.declared.limits.Limits.{Limits}
use Rattle.jxl_codestream.specs.Fronts.{FrameAt, FrontStands, HasProfile}
use Rattle.jxl_codestream.specs.declared.toc.TocEntry.{TocEntry}
use Rattle.jxl_profile_write.specs.Profiles.{AllowProfile}

-- sections, one behind another
abbrev pub joined : List (List ℕ) → List ℕ
joined sections = flat_map (λ s. s) sections

-- the only frame of a still picture, which begins at this byte and has its sections at these places from there on
abbrev pub still_at : Limits → Image → ℕ → ℕ → List TocEntry → FrameAt
still_at limits image shift start entries =
    record { start = start; header = still_frame image shift; entries = entries; trees = tree_limits limits image 0 image.size }

-- The bytes are what a still picture has before sections of these sizes. With any such sections after them they are a file that
-- is its own codestream. Within limits that allow the picture, the reader finds the image and this frame, and no other. At the
-- places of the frame's sections are these sections.
pub record IsStillFront {D : Type 0} (d : Meaning D) (image : Image) (shift : ℕ) (sizes front : List ℕ) : Type 0 where
  pub start : ℕ
  pub entries : List TocEntry
  pub bare : (rest : List ℕ) → HasCodestream (front ++ rest) (Ok (front ++ rest))
  pub stands : (limits : Limits) (sections : List (List ℕ)) → Allow limits image → map length sections ≡ sizes →
      FrontStands d limits (front ++ joined sections) image [] (still_at limits image shift start entries)
  pub sections : (sections : List (List ℕ)) → map length sections ≡ sizes →
      map (λ e. take e.size (drop e.offset (drop start (front ++ joined sections)))) entries ≡ sections

-- The same of a picture with this profile, or with none, within limits that allow the profile too. And whatever follows the
-- bytes, the reader finds the profile.
pub record IsProfiledFront {D : Type 0} (d : Meaning D) (image : Image) (icc : Option (List ℕ)) (shift : ℕ) (sizes front : List ℕ) : Type 0 where
  pub start : ℕ
  pub entries : List TocEntry
  pub bare : (rest : List ℕ) → HasCodestream (front ++ rest) (Ok (front ++ rest))
  pub stands : (limits : Limits) (sections : List (List ℕ)) → Allow limits image → IfSome icc (AllowProfile limits.profile) → map length sections ≡ sizes →
      FrontStands d limits (front ++ joined sections) image [] (still_at limits image shift start entries)
  pub profile : (limits : Limits) (rest : List ℕ) → Allow limits image → IfSome icc (AllowProfile limits.profile) → HasProfile d limits (front ++ rest) image icc
  pub sections : (sections : List (List ℕ)) → map length sections ≡ sizes →
      map (λ e. take e.size (drop e.offset (drop start (front ++ joined sections)))) entries ≡ sections
