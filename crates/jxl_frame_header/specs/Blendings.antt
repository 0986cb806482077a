-- How a frame is blended with others, and what becomes of it (ISO/IEC 18181-1, frame header: BlendingInfo and after it).
use Rattle.std.specs.Prelude.{ℕ, ◌==◌, ◌&&◌, ◌||◌, not, nat_lt, Bool, true, false, if◌then◌else◌, Option, is_some, codes}
use Rattle.std.specs.Option.{option_map_or}
use Rattle.jxlm_bits.specs.Grammar.{Grammar, number, flag, u32, give, ◌>>=◌}
use Rattle.jxlm_bits.specs.declared.bits.U32Spec.TheVariants.{Const, Offset}
use Rattle.jxl_image_header.specs.Fields.{number_where, when}
use Rattle.jxl_image_header.specs.declared.image.Animation.{Animation}
use Rattle.jxl_frame_header.specs.Places.{is_shown, is_lf, is_reference}
use Rattle.jxl_frame_header.specs.declared.coding.FrameType.{FrameType}
use Rattle.jxl_frame_header.specs.declared.blending.BlendMode.{BlendMode}
use Rattle.jxl_frame_header.specs.declared.blending.BlendMode.TheVariants.{Replace, Add, Blend, MulAdd, Mul}
use Rattle.jxl_frame_header.specs.declared.blending.BlendingInfo.{BlendingInfo}
use Rattle.jxl_frame_header.specs.declared.blending.FrameUse.{FrameUse}

-- how some channels are blended, in an image with this number of extra channels, where some modes look at one of these: alpha
unfoldable pub blending_info : Bool → ℕ → Bool → Grammar BlendingInfo
blending_info there extra partial = do
  n ← when there (number_where (codes "BlendMode") (λ v. nat_lt v 5) (u32 (Const 0) (Const 1) (Const 2) (Offset 3 2))) 0
  let by_alpha = nat_lt 0 extra && ((n == 2) || (n == 3))
  alpha ← when by_alpha (number_where (codes "alpha_channel") (λ v. nat_lt v extra) (u32 (Const 0) (Const 1) (Const 2) (Offset 3 3))) 0
  clamp ← when (by_alpha || (n == 4)) flag false
  source ← when (not (n == 0) || there && partial) (number 2) 0
  let mode = if n == 0 then Replace else if n == 1 then Add else if n == 2 then Blend else if n == 3 then MulAdd else Mul
  give (record { mode = mode; alpha_channel = alpha; clamp = clamp; source = source })

abbrev pub is_replace : BlendMode → Bool
is_replace Replace = true
is_replace other = false

-- For how long a frame of an animation is shown, whether it is the last, and how it is saved for others, before colours
-- are transformed or after: one that others may use, and that nothing was blended into, has a flag for that.
unfoldable pub frame_use : Bool → Option Animation → FrameType → Bool → Grammar FrameUse
frame_use shown animation frame_type replaces = do
  time ← when (shown && is_some animation) (u32 (Const 0) (Const 1) (Offset 0 8) (Offset 0 32)) 0
  code ← when (shown && option_map_or (λ a. a.have_timecodes) animation false) (number 32) 0
  last ← when shown flag (is_shown frame_type)
  reference ← when (not (is_lf frame_type) && not last) (number 2) 0
  let is_unblended = shown && replaces && not last && ((time == 0) || not (reference == 0))
  before ← when (is_reference frame_type || is_unblended) flag (is_lf frame_type)
  give (record { duration = time; timecode = code; is_last = last; save_as_reference = reference; save_before_ct = before })
