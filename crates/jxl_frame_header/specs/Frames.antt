-- The frame header (ISO/IEC 18181-1, frame header).
use Rattle.std.specs.Prelude.{ℕ, ◌*◌, ◌^◌, ◌==◌, ◌&&◌, ◌||◌, not, List, [], length, Bool, true, false, if◌then◌else◌, Option, is_some, Some, None}
use Rattle.std.specs.List.{list_any}
use Rattle.std.specs.Option.{option_map_or, option_or}
use Rattle.jxlm_bits.specs.Grammar.{Grammar, number, u32, give, repeated, ◌>>=◌}
use Rattle.jxlm_bits.specs.declared.bits.U32Spec.TheVariants.{Const}
use Rattle.jxl_image_header.specs.Fields.{extensions, name, optional, bundle_follows, when}
use Rattle.jxl_image_header.specs.Images.{Image}
use Rattle.jxl_image_header.specs.declared.size.Size.{Size}
use Rattle.jxl_frame_header.specs.Codings.{factor, coding, is_modular, coding_refusal}
use Rattle.jxl_frame_header.specs.Passes.{Passes, passes, passes_of}
use Rattle.jxl_frame_header.specs.Places.{crop, is_lf, is_shown, is_reference}
use Rattle.jxl_frame_header.specs.Blendings.{blending_info, is_replace, frame_use}
use Rattle.jxl_frame_header.specs.Filters.{filter}
use Rattle.jxl_frame_header.specs.declared.coding.FrameCoding.{FrameCoding}
use Rattle.jxl_frame_header.specs.declared.place.FrameArea.{FrameArea}
use Rattle.jxl_frame_header.specs.declared.blending.BlendingInfo.{BlendingInfo}
use Rattle.jxl_frame_header.specs.declared.blending.FrameUse.{FrameUse}
use Rattle.jxl_frame_header.specs.declared.filter.RestorationFilter.{RestorationFilter}
use Rattle.jxl_frame_header.specs.declared.frame.FrameHeader.{FrameHeader}
use Rattle.jxl_frame_header.specs.declared.refusal.Refusal.{Refusal}
use Rattle.jxl_frame_header.specs.declared.refusal.Refusal.TheVariants as refusals

-- a frame header, seen without its memory
pub record Frame : Type 0 where
  pub coding : FrameCoding
  pub ec_upsampling : List ℕ
  pub group_dim : ℕ
  pub passes : Passes
  pub place : FrameArea
  pub blending_info : BlendingInfo
  pub ec_blending_info : List BlendingInfo
  pub frame_use : FrameUse
  pub name_len : ℕ
  pub restoration_filter : RestorationFilter
  pub extensions : ℕ

abbrev pub frame_of : FrameHeader → Frame
frame_of h = record {
  coding = h.coding;
  ec_upsampling = h.ec_upsampling.items;
  group_dim = h.group_dim;
  passes = passes_of h.passes;
  place = h.place;
  blending_info = h.blending.blending_info;
  ec_blending_info = h.blending.ec_blending_info.items;
  frame_use = h.frame_use;
  name_len = h.name_len;
  restoration_filter = h.restoration_filter;
  extensions = h.extensions;
}

-- The header of a frame of this image. The side of a group is 128 times 2 to the power of two bits, and 256 of VarDCT,
-- which has with XYB two scales of three bits that are not looked at. One of low frequencies tells how often it is one.
unfoldable pub frame_header : Image → Grammar Frame
frame_header image = do
  follows ← bundle_follows true
  coding ← coding follows image.xyb_encoded
  factors ← when (follows && not coding.flags.use_lf_frame) (repeated (length image.ec_info) factor) []
  shift ← when (is_modular coding.encoding) (number 2) 1
  _ ← when (follows && not (is_modular coding.encoding) && image.xyb_encoded) (number 6) 0
  passes ← passes (follows && not (is_reference coding.frame_type))
  level ← when (is_lf coding.frame_type) (u32 (Const 1) (Const 2) (Const 3) (Const 4)) 0
  crop ← when (follows && not (is_lf coding.frame_type)) (optional (crop image.size (is_shown coding.frame_type))) None
  let partial = option_map_or (λ c. c.partial) crop false
  let shown = follows && is_shown coding.frame_type
  colours ← blending_info shown (length image.ec_info) partial
  others ← when shown (repeated (length image.ec_info) (blending_info true (length image.ec_info) partial)) []
  frame_use ← frame_use shown image.animation coding.frame_type (is_replace colours.mode && not partial)
  name_bytes ← when follows name 0
  filter ← filter follows (is_modular coding.encoding)
  extensions ← when follows extensions 0
  give (record {
    coding = coding;
    ec_upsampling = factors;
    group_dim = 128 * 2 ^ shift;
    passes = passes;
    place = record { lf_level = level; crop = crop };
    blending_info = colours;
    ec_blending_info = others;
    frame_use = frame_use;
    name_len = name_bytes;
    restoration_filter = filter;
    extensions = extensions;
  })

-- samples of an extra channel are floats; those of colours or of an extra channel
abbrev pub has_extra_floats : Image → Bool
has_extra_floats image = list_any (λ c. not (c.bit_depth.exp_bits == 0)) image.ec_info

abbrev pub has_floats : Image → Bool
has_floats image = not (image.bit_depth.exp_bits == 0) || has_extra_floats image

-- an extra channel has a size of its own
abbrev pub has_shifts : Image → Bool
has_shifts image = list_any (λ c. not (c.dim_shift == 0)) image.ec_info

-- a frame is not shown, and saved for others; its sides, in a picture of this size
abbrev pub is_saved : Frame → Bool
is_saved h = is_reference h.coding.frame_type

abbrev pub frame_size : Size → Frame → Size
frame_size picture h = option_map_or (λ c. record { width = c.width; height = c.height }) h.place.crop picture

-- What a frame has that is not supported, the first that holds: one that is shown covers the picture, and is the last;
-- one that only others use may have sides of its own, but none of 0, and is saved before its colours are transformed.
abbrev pub frame_refusal : Image → Frame → Option Refusal
frame_refusal image h = option_or (coding_refusal (has_floats image) (has_shifts image) h.coding) (
    if list_any (λ f. not (f == 1)) h.ec_upsampling then Some refusals.ExtraUpsampling else
    if is_some h.place.crop && not (is_saved h) then Some refusals.Crop else
    if option_map_or (λ c. (c.width == 0) || (c.height == 0)) h.place.crop false then Some refusals.EmptyFrame else
    if not (is_replace h.blending_info.mode) then Some refusals.Blending else
    if list_any (λ b. not (is_replace b.mode)) h.ec_blending_info then Some refusals.ExtraBlending else
    if is_saved h && not h.frame_use.save_before_ct then Some refusals.SavedAfter else
    if not (is_saved h || h.frame_use.is_last) then Some refusals.Frames else
    if h.restoration_filter.gab || not (h.restoration_filter.epf_iters == 0) then Some refusals.LoopFilter else None)
