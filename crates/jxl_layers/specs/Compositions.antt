-- The picture that a frame makes with what the slots hold, and what they hold after it (ISO/IEC 18181-1, frame header: crop,
-- BlendingInfo, save_as_reference).
use Rattle.std.specs.Prelude.{◌≡◌, ℕ, ◌+◌, ◌-◌, ◌<◌, ◌==◌, ◌&&◌, ◌||◌, not, nat_lt, Bool, true, false, if◌then◌else◌, ℤ, pos, List, [], length, get_or, Option, Some, None, MatchBool, MatchOption, unwrap_or}
use Rattle.std.specs.Option.{option_map_or}
use Rattle.std.specs.Float.{Float}
use Rattle.jxlm_base.specs.Grid.{Grid, grid, filled}
use Rattle.jxl_image_header.specs.Images.{Image}
use Rattle.jxl_image_header.specs.declared.size.Size.{Size}
use Rattle.jxl_frame_header.specs.Frames.{Frame, frame_size, is_saved}
use Rattle.jxl_frame_header.specs.declared.blending.BlendMode.{BlendMode}
use Rattle.jxl_frame_header.specs.declared.blending.BlendMode.TheVariants as modes
use Rattle.jxl_frame_header.specs.declared.blending.BlendingInfo.{BlendingInfo}
use Rattle.jxl_picture.specs.Pictures.{colour_count, has_alpha}
use Rattle.jxl_patches.specs.Slots.{IsOfSize, Slots, saved_with, single_of}
use Rattle.jxl_blending.specs.Choices.{alpha_blending, colour_blending, extra_blending, sample_scale}
use Rattle.jxl_blending.specs.Overlaps.{IsBlended, IsShownUnder}
use Rattle.jxl_blending.specs.Scales.{single_zero}
use Rattle.jxl_blending.specs.SingleGrids.{loaded_grid}
use Rattle.jxl_blending.specs.declared.blending.ChannelBlending.{ChannelBlending}
use Rattle.jxl_blending.specs.declared.scale.Scale.{Scale}
use Rattle.jxl_layers.specs.Refusals.{is_taken}

-- how channel c is blended, after this number of colours; an extra channel of which the header says nothing as colours are
abbrev pub info_of : Frame → ℕ → ℕ → BlendingInfo
info_of h colours c = if nat_lt c colours then h.blending_info else get_or h.ec_blending_info (c - colours) h.blending_info

-- the column and the row of the picture where the frame begins
abbrev pub left_of : Frame → ℤ
left_of h = option_map_or (λ c. c.x0) h.place.crop (pos 0)

abbrev pub top_of : Frame → ℤ
top_of h = option_map_or (λ c. c.y0) h.place.crop (pos 0)

-- what the samples of channel c stand for
abbrev pub scale_of : Image → ℕ → Scale
scale_of image c = sample_scale image (colour_count image) c

-- what channel c of the frame in this slot stands for, by its whole samples; zeros where the slot holds none
abbrev pub whole_below : Image → Slots → ℕ → ℕ → Grid Float
whole_below image slots slot c = option_map_or (λ f. loaded_grid (scale_of image c) (get_or f.channels c (grid 0 0 []))) (get_or slots slot None) (filled image.size.width image.size.height single_zero)

-- the same, where a frame that was blended has what its samples stood for before they were rounded
abbrev pub channel_below : Image → Slots → ℕ → ℕ → Grid Float
channel_below image slots slot c = unwrap_or (single_of slots slot c) (whole_below image slots slot c)

-- channel c of the picture below a frame: each channel has its own slot
abbrev pub background : Image → Frame → Slots → ℕ → Grid Float
background image h slots c = channel_below image slots (info_of h (colour_count image) c).source c

-- among all channels that of the alpha which blending takes; where there is none, channel c itself
abbrev pub alpha_of : Image → BlendingInfo → ℕ → ℕ
alpha_of image info c = if nat_lt info.alpha_channel (length image.ec_info) then colour_count image + info.alpha_channel else c

-- a mode blends by alpha
abbrev pub is_blend : BlendMode → Bool
is_blend modes.Blend = true
is_blend mode = false

-- colours are blended by the alpha that extra channel k is: then so is it, whatever its own mode says
abbrev pub writes_alpha : Image → Frame → ℕ → Bool
writes_alpha image h k = is_blend h.blending_info.mode && has_alpha image && (k == h.blending_info.alpha_channel)

-- what the headers say of channel c
abbrev pub blending_of : Image → Frame → ℕ → ChannelBlending
blending_of image h c = let info = info_of h (colour_count image) c in
    if nat_lt c (colour_count image) then colour_blending image info else
    if writes_alpha image h (c - colour_count image) then alpha_blending image h.blending_info (c - colour_count image) else extra_blending image info (c - colour_count image)

-- What channel c of a picture stands for is made of that of a frame and those of the pictures in slots, by the alpha of the frame
-- and that of the picture below.
abbrev pub IsLayered : Image → Frame → Slots → List (Grid ℤ) → ℕ → Grid Float → Type 0
IsLayered image h slots channels c values = let alpha = alpha_of image (info_of h (colour_count image) c) c in
    IsBlended (blending_of image h c) (left_of h) (top_of h) (get_or channels c (grid 0 0 [])) (get_or channels alpha (grid 0 0 []))
    (background image h slots alpha) (background image h slots c) values

-- channel c of the picture below a frame as samples; zeros where the slot holds none
abbrev pub samples_below : Image → Frame → Slots → ℕ → Grid ℤ
samples_below image h slots c = option_map_or (λ f. get_or f.channels c (grid 0 0 [])) (get_or slots (info_of h (colour_count image) c).source None) (filled image.size.width image.size.height (pos 0))

-- The samples of channel c of a picture: where the frame lies, those nearest to what was made; else those of the picture below.
abbrev pub IsShownOver : Image → Frame → Slots → List (Grid ℤ) → ℕ → Grid Float → Grid ℤ → Type 0
IsShownOver image h slots channels c values picture = let front = get_or channels c (grid 0 0 []) in
    IsShownUnder (scale_of image c) (left_of h) (top_of h) front.width front.height values (samples_below image h slots c) picture

-- The channels of a picture are made of those of a frame and of the pictures in slots: each with its own slot. Samples are rounded
-- once, as they are shown.
pub record IsComposed (image : Image) (h : Frame) (slots : Slots) (channels : List (Grid ℤ)) (values : List (Grid Float)) (pictures : List (Grid ℤ)) : Type 0 where
  pub count : length pictures ≡ length channels
  pub value_count : length values ≡ length channels
  pub each : (c : ℕ) → c < length channels → IsLayered image h slots channels c (get_or values c (grid 0 0 []))
  pub shown : (c : ℕ) → c < length channels → IsShownOver image h slots channels c (get_or values c (grid 0 0 [])) (get_or pictures c (grid 0 0 []))

-- values of all channels fill grids of this size
abbrev pub AreSingles : Size → List (Grid Float) → Type 0
AreSingles size values = (c : ℕ) → c < length values → IsOfSize size (get_or values c (grid 0 0 []))

-- the same of those of a frame, if it was blended
abbrev pub AreSinglesIf : Size → Option (List (Grid Float)) → Type 0
AreSinglesIf size singles = MatchOption singles (Unit {0}) (AreSingles size)

-- what a frame makes: the frame itself, or a picture that is composed with others, of which slots keep what its samples stood for
abbrev pub IsPictureOf : Image → Frame → Slots → List (Grid ℤ) → Option (List (Grid Float)) → List (Grid ℤ) → Type 0
IsPictureOf image h slots channels singles pictures = MatchBool (is_taken h) ((pictures ≡ channels) × (singles ≡ None))
    ((values : List (Grid Float)) × (singles ≡ Some values) × IsComposed image h slots channels values pictures)

-- how large it is
abbrev pub picture_size : Size → Frame → Size
picture_size size h = if is_saved h then frame_size size h else size

-- the frame is the last one that is shown
abbrev pub is_final : Frame → Bool
is_final h = not (is_saved h) && h.frame_use.is_last

-- its picture is shown: the last one, and each that is shown for some time
abbrev pub is_displayed : Frame → Bool
is_displayed h = not (is_saved h) && (h.frame_use.is_last || nat_lt 0 h.frame_use.duration)

-- others may use it: not the last picture, nor one that is shown for some time and would be saved in slot 0
abbrev pub is_kept : Frame → Bool
is_kept h = is_saved h || (not h.frame_use.is_last && ((h.frame_use.duration == 0) || not (h.frame_use.save_as_reference == 0)))

-- what the slots hold after a frame that made these channels, from these values if it was blended
abbrev pub slots_after : Size → Frame → Slots → Option (List (Grid Float)) → List (Grid ℤ) → Slots
slots_after size h slots singles pictures = if is_kept h then saved_with slots h.frame_use.save_as_reference (picture_size size h) pictures singles else slots
