-- What is not supported of an animation, or of the layers of a picture (ISO/IEC 18181-1, image header; frame header): less than
-- of a still picture, since pictures may change, and frames that are shown may have a crop, be blended, and be several.
use Rattle.std.specs.Prelude.{ℕ, ◌+◌, ◌-◌, ◌==◌, ◌&&◌, ◌||◌, not, nat_lt, List, [], ◌∷◌, get_or, Bool, false, if◌then◌else◌, Option, Some, None, is_some}
use Rattle.std.specs.List.{list_all, list_any}
use Rattle.std.specs.Option.{option_map_or, option_or}
use Rattle.jxl_image_header.specs.Images.{Image, image_refusal}
use Rattle.jxl_image_header.specs.declared.channel.BitDepth.{BitDepth}
use Rattle.jxl_image_header.specs.declared.size.Size.{Size}
use Rattle.jxl_image_header.specs.declared.refusal.Refusal.{Refusal as ImageRefusal}
use Rattle.jxl_frame_header.specs.Blendings.{is_replace}
use Rattle.jxl_frame_header.specs.Codings.{coding_refusal}
use Rattle.jxl_frame_header.specs.Frames.{Frame, has_floats, has_shifts, is_saved}
use Rattle.jxl_frame_header.specs.declared.blending.BlendingInfo.{BlendingInfo}
use Rattle.jxl_frame_header.specs.declared.refusal.Refusal.{Refusal}
use Rattle.jxl_frame_header.specs.declared.refusal.Refusal.TheVariants as refusals
use Rattle.jxl_patches.specs.Slots.{Slots, sizes_of}
use Rattle.jxl_layers.specs.declared.error.LayerError.{LayerError}
use Rattle.jxl_layers.specs.declared.error.LayerError.TheVariants.{Background, BlendedFloats, ShiftedChannels}

-- an image, but that its pictures do not change
abbrev pub still : Image → Image
still image = record image { animation = None }

-- what an image has that is not supported; that it is an animation is
abbrev pub animation_refusal : Image → Option ImageRefusal
animation_refusal image = image_refusal (still image)

-- What a frame has that is not supported beside its coding, the first that holds: it has no side of 0, and one that only others
-- use is saved before its colours are transformed.
abbrev pub use_refusal : Frame → Option Refusal
use_refusal h =
    if list_any (λ f. not (f == 1)) h.ec_upsampling then Some refusals.ExtraUpsampling else
    if option_map_or (λ c. (c.width == 0) || (c.height == 0)) h.place.crop false then Some refusals.EmptyFrame else
    if is_saved h && not h.frame_use.save_before_ct then Some refusals.SavedAfter else
    if h.restoration_filter.gab || not (h.restoration_filter.epf_iters == 0) then Some refusals.LoopFilter else None

-- what a frame has that is not supported
abbrev pub layer_refusal : Image → Frame → Option Refusal
layer_refusal image h = option_or (coding_refusal (has_floats image) (has_shifts image) h.coding) (use_refusal h)

-- a frame is the picture as it is: it covers it, and replaces all channels
abbrev pub is_whole : Frame → Bool
is_whole h = not (is_some h.place.crop) && is_replace h.blending_info.mode && list_all (λ b. is_replace b.mode) h.ec_blending_info

-- the frame is taken as it is: only others use it, or it is the picture
abbrev pub is_taken : Frame → Bool
is_taken h = is_saved h || is_whole h

-- a slot holds a frame that is not as large as the picture
abbrev pub is_other : Size → Option Size → Bool
is_other size held = option_map_or (λ s. not ((s.width == size.width) && (s.height == size.height))) held false

abbrev pub slot_refusal : Size → Slots → BlendingInfo → Option LayerError
slot_refusal size slots info = if is_other size (get_or (sizes_of slots) info.source None) then Some (Background info.source) else None

-- the first of these channels that are blended with a frame of another size
abbrev pub slots_refusal : Size → Slots → List BlendingInfo → Option LayerError
slots_refusal size slots [] = None
slots_refusal size slots (b ∷ bs) = option_or (slot_refusal size slots b) (slots_refusal size slots bs)

-- samples of a depth are floats of fewer than 32 bits
abbrev pub is_short : BitDepth → Bool
is_short d = not (d.exp_bits == 0) && not (d.bits_per_sample == 32)

-- those of colours or of an extra channel are
abbrev pub has_short_floats : Image → Bool
has_short_floats image = is_short image.bit_depth || list_any (λ c. is_short c.bit_depth) image.ec_info

-- what of a frame cannot be composed with what the slots hold, the first that holds
abbrev pub composition_refusal : Image → Frame → Slots → Option LayerError
composition_refusal image h slots = if is_taken h then None else
    if has_short_floats image then Some BlendedFloats else if has_shifts image then Some ShiftedChannels else
    slots_refusal image.size slots (h.blending_info ∷ h.ec_blending_info)
