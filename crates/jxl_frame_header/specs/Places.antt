-- The place of a frame in the picture (ISO/IEC 18181-1, frame header: level of low frequencies, crop).
use Rattle.std.specs.Prelude.{ℕ, ◌+◌, ◌/◌, ◌%◌, ◌==◌, ◌&&◌, ◌||◌, not, nat_lt, Bool, true, false}
use Rattle.jxlm_bits.specs.Grammar.{Grammar, u32, give, ◌>>=◌}
use Rattle.jxlm_bits.specs.Numbers.{unpack}
use Rattle.jxlm_bits.specs.declared.bits.U32Spec.TheVariants.{Offset}
use Rattle.jxl_image_header.specs.Fields.{when}
use Rattle.jxl_image_header.specs.declared.size.Size.{Size}
use Rattle.jxl_frame_header.specs.declared.coding.FrameType.{FrameType}
use Rattle.jxl_frame_header.specs.declared.coding.FrameType.TheVariants.{LfFrame, ReferenceOnly}
use Rattle.jxl_frame_header.specs.declared.place.Crop.{Crop}

abbrev pub is_lf : FrameType → Bool
is_lf LfFrame = true
is_lf other = false

abbrev pub is_reference : FrameType → Bool
is_reference ReferenceOnly = true
is_reference other = false

-- the frames that are shown
abbrev pub is_shown : FrameType → Bool
is_shown t = not (is_lf t || is_reference t)

-- a side, or twice the number of a corner's coordinate (for a negative one twice its amount less one)
unfoldable pub extent : Grammar ℕ
extent = u32 (Offset 0 8) (Offset 256 11) (Offset 2304 14) (Offset 18688 30)

-- from a corner with this number on, a side covers one of the picture
abbrev pub covers : ℕ → ℕ → ℕ → Bool
covers corner side whole = ((corner == 0) || (corner % 2 == 1)) && not (nat_lt side (whole + (corner + 1) / 2))

-- a frame's own sides and, where it is shown, corner; partial: a part of this picture is left to the frame before
unfoldable pub crop : Size → Bool → Grammar Crop
crop size shown = do
  x ← when shown extent 0
  y ← when shown extent 0
  width ← extent
  height ← extent
  let partial = shown && not (covers x width size.width && covers y height size.height)
  give (record { x0 = unpack x; y0 = unpack y; width = width; height = height; partial = partial })
