-- The frame headers that the writer spells (ISO/IEC 18181-1, frame header): Modular frames, each field in the range of its
-- spellings, and what the header leaves untold as by default. YCbCr, names and extensions are absent: a record does not
-- keep how YCbCr is sampled, what a name is, and what extensions hold.
use Rattle.std.specs.Prelude.{ℕ, ◌+◌, ◌-◌, ◌*◌, ◌==◌, ◌&&◌, ◌||◌, not, nat_lt, nat_le, ℤ, pos, negsuc, List, length, drop, Bool, true, false, if◌then◌else◌, Option, is_some}
use Rattle.std.specs.List.{list_all, zip}
use Rattle.std.specs.Option.{option_map_or}
use Rattle.jxlm_bits.specs.declared.bits.U32Spec.TheVariants.{Const, Offset}
use Rattle.jxlm_bit_writer.specs.Fields.{is_spelled}
use Rattle.jxl_image_header.specs.Images.{Image}
use Rattle.jxl_image_header.specs.declared.image.Animation.{Animation}
use Rattle.jxl_image_header.specs.declared.size.Size.{Size}
use Rattle.jxl_frame_header.specs.Codings.{is_modular}
use Rattle.jxl_frame_header.specs.Passes.{Passes}
use Rattle.jxl_frame_header.specs.Places.{is_shown, is_lf, is_reference, covers}
use Rattle.jxl_frame_header.specs.Blendings.{is_replace}
use Rattle.jxl_frame_header.specs.Frames.{Frame}
use Rattle.jxl_frame_header.specs.declared.coding.FrameCoding.{FrameCoding}
use Rattle.jxl_frame_header.specs.declared.coding.FrameType.{FrameType}
use Rattle.jxl_frame_header.specs.declared.place.Crop.{Crop}
use Rattle.jxl_frame_header.specs.declared.blending.BlendMode.{BlendMode}
use Rattle.jxl_frame_header.specs.declared.blending.BlendMode.TheVariants.{Blend, MulAdd, Mul}
use Rattle.jxl_frame_header.specs.declared.blending.BlendingInfo.{BlendingInfo}
use Rattle.jxl_frame_header.specs.declared.blending.FrameUse.{FrameUse}
use Rattle.jxl_frame_header.specs.declared.filter.RestorationFilter.{RestorationFilter}

-- 1, 2, 4 or 8
abbrev pub is_factor : ℕ → Bool
is_factor v = is_spelled (Const 1) (Const 2) (Const 4) (Const 8) v

-- Modular, without YCbCr, and of the picture's resolution where another frame has its low frequencies
abbrev pub is_coding : FrameCoding → Bool
is_coding c = is_modular c.encoding && not c.do_ycbcr && (if c.flags.use_lf_frame then c.upsampling == 1 else is_factor c.upsampling)

-- a factor of each of n extra channels, where these are told
abbrev pub are_factors : Bool → ℕ → List ℕ → Bool
are_factors told n factors = if told then (length factors == n) && list_all is_factor factors else length factors == 0

-- the side of a group
abbrev pub is_dim : ℕ → Bool
is_dim v = (v == 128) || (v == 256) || (v == 512) || (v == 1024)

-- each number but the first is less than the one before it, or greater
abbrev pub is_falling : List ℕ → Bool
is_falling xs = list_all (λ e. nat_lt e.1 e.0) (zip xs (drop 1 xs))

abbrev pub is_rising : List ℕ → Bool
is_rising xs = list_all (λ e. nat_lt e.0 e.1) (zip xs (drop 1 xs))

-- From 1 to 11 passes, and one where they are not told; a shift of each but the last; up to 4 resolutions, but no more
-- than passes, and none of one pass; each resolution finer than the one before, and its last pass a later one, below 8.
abbrev pub are_passes : Bool → Passes → Bool
are_passes told x =
    (if told then is_spelled (Const 1) (Const 2) (Const 3) (Offset 4 3) x.num_passes else x.num_passes == 1) &&
    (length x.shift == x.num_passes - 1) && list_all (is_spelled (Const 0) (Const 1) (Const 2) (Const 3)) x.shift &&
    (if x.num_passes == 1 then length x.downsample == 0 else is_spelled (Const 0) (Const 1) (Const 2) (Offset 3 1) (length x.downsample) && nat_le (length x.downsample) x.num_passes) &&
    list_all is_factor x.downsample && is_falling x.downsample && (length x.last_pass == length x.downsample) &&
    list_all (λ v. is_spelled (Const 0) (Const 1) (Const 2) (Offset 0 3) v) x.last_pass && list_all (λ v. nat_lt v x.num_passes) x.last_pass && is_rising x.last_pass

-- the level of a frame of low frequencies, from 1 to 4
abbrev pub is_level : Bool → ℕ → Bool
is_level lf v = if lf then is_spelled (Const 1) (Const 2) (Const 3) (Const 4) v else v == 0

-- the number of a corner's coordinate: 2 k for k, and 2 k + 1 for - k - 1
abbrev pub corner_number : ℤ → ℕ
corner_number (pos k) = 2 * k
corner_number (negsuc k) = 2 * k + 1

-- a side, or the number of a corner's coordinate, below 18688 + 2^30
abbrev pub is_extent : ℕ → Bool
is_extent v = is_spelled (Offset 0 8) (Offset 256 11) (Offset 2304 14) (Offset 18688 30) v

-- a corner's coordinate, 0 of a frame that is not shown
abbrev pub is_corner : Bool → ℤ → Bool
is_corner shown x = if shown then is_extent (corner_number x) else corner_number x == 0

-- a frame's own place in a picture of this size; partial exactly where it is shown and does not cover the picture
abbrev pub is_crop : Size → Bool → Crop → Bool
is_crop size shown c =
    is_corner shown c.x0 && is_corner shown c.y0 && is_extent c.width && is_extent c.height &&
    (if shown && not (covers (corner_number c.x0) c.width size.width && covers (corner_number c.y0) c.height size.height) then c.partial else not c.partial)

-- a place of its own only where it may be told
abbrev pub is_place : Bool → Size → Bool → Option Crop → Bool
is_place told size shown crop = if told then option_map_or (is_crop size shown) crop true else not (is_some crop)

-- a mode that looks at alpha, and one that multiplies
abbrev pub uses_alpha : BlendMode → Bool
uses_alpha Blend = true
uses_alpha MulAdd = true
uses_alpha other = false

abbrev pub is_product : BlendMode → Bool
is_product Mul = true
is_product other = false

-- How some channels are blended, in an image with this number of extra channels: by an alpha channel that there is, where
-- the mode looks at one; clamped only where alpha or a factor is; and with a frame that is saved, where there is one.
abbrev pub is_blending : Bool → ℕ → Bool → BlendingInfo → Bool
is_blending told extra partial b =
    (told || is_replace b.mode) &&
    (if nat_lt 0 extra && uses_alpha b.mode then is_spelled (Const 0) (Const 1) (Const 2) (Offset 3 3) b.alpha_channel && nat_lt b.alpha_channel extra else b.alpha_channel == 0) &&
    (nat_lt 0 extra && uses_alpha b.mode || is_product b.mode || not b.clamp) &&
    (if not (is_replace b.mode) || told && partial then nat_lt b.source 4 else b.source == 0)

-- how each of n extra channels is blended, where that is told
abbrev pub are_blendings : Bool → ℕ → Bool → List BlendingInfo → Bool
are_blendings told n partial infos = if told then (length infos == n) && list_all (is_blending true n partial) infos else length infos == 0

-- it may be saved before its colours are transformed: others alone use it, or it is shown, replaces all, and is kept
abbrev pub may_save_before : Bool → FrameType → Bool → FrameUse → Bool
may_save_before shown frame_type replaces u =
    is_reference frame_type || shown && replaces && not u.is_last && ((u.duration == 0) || not (u.save_as_reference == 0))

-- What becomes of a frame: times only in an animation, and codes only where it has them; the last only if it is shown; one
-- of four saved frames, and 0 where it is not kept; saved before its colours are transformed only where it may be.
abbrev pub is_use : Bool → Option Animation → FrameType → Bool → FrameUse → Bool
is_use shown animation frame_type replaces u =
    (shown && is_some animation || (u.duration == 0)) && (shown && option_map_or (λ a. a.have_timecodes) animation false || (u.timecode == 0)) &&
    (shown || not u.is_last) && (if not (is_lf frame_type) && not u.is_last then nat_lt u.save_as_reference 4 else u.save_as_reference == 0) &&
    (may_save_before shown frame_type replaces u || (if is_lf frame_type then u.save_before_ct else not u.save_before_ct))

-- filters, without extensions
abbrev pub is_filter : RestorationFilter → Bool
is_filter f = nat_lt f.epf_iters 4 && (f.extensions == 0)

-- part of the picture is left to the frame before
abbrev pub is_partial : Frame → Bool
is_partial f = option_map_or (λ c. c.partial) f.place.crop false

-- The writer spells the header of a frame of this image.
abbrev pub is_writable : Image → Frame → Bool
is_writable image f =
    let shown = is_shown f.coding.frame_type in
    is_coding f.coding && are_factors (not f.coding.flags.use_lf_frame) (length image.ec_info) f.ec_upsampling && is_dim f.group_dim &&
    are_passes (not (is_reference f.coding.frame_type)) f.passes && is_level (is_lf f.coding.frame_type) f.place.lf_level &&
    is_place (not (is_lf f.coding.frame_type)) image.size shown f.place.crop && is_blending shown (length image.ec_info) (is_partial f) f.blending_info &&
    are_blendings shown (length image.ec_info) (is_partial f) f.ec_blending_info &&
    is_use shown image.animation f.coding.frame_type (is_replace f.blending_info.mode && not (is_partial f)) f.frame_use &&
    (f.name_len == 0) && is_filter f.restoration_filter && (f.extensions == 0)
