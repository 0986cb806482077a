-- The numbers of types of frames, of flags and of modes of blending.
use Rattle.std.specs.Prelude.{◌≡◌, ℕ, ◌+◌, ◌==◌, ◌||◌, ◌<◌, nat_lt, Bool, true, if◌then◌else◌}
use Rattle.jxlm_bits.specs.declared.bits.U32Spec.TheVariants.{Const, Offset}
use Rattle.jxlm_bit_writer.specs.Fields.{is_spelled}
use Rattle.jxl_frame_header.specs.Blendings.{is_replace}
use Rattle.jxl_frame_header.specs.declared.coding.FrameType.{FrameType}
use Rattle.jxl_frame_header.specs.declared.coding.FrameType.TheVariants.{Regular, LfFrame, ReferenceOnly, SkipProgressive}
use Rattle.jxl_frame_header.specs.declared.coding.FrameFlags.{FrameFlags}
use Rattle.jxl_frame_header.specs.declared.blending.BlendMode.{BlendMode}
use Rattle.jxl_frame_header.specs.declared.blending.BlendMode.TheVariants.{Replace, Add, Blend, MulAdd, Mul}
use Rattle.jxl_frame_header_write.specs.Writable.{uses_alpha, is_product}

-- the number of a type
pub record IsTypeNumber (n : ℕ) (frame_type : FrameType) : Type 0 where
  pub small : n < 4
  pub meant : (if n == 0 then Regular else if n == 1 then LfFrame else if n == 2 then ReferenceOnly else SkipProgressive) ≡ frame_type

-- a number if a flag is set
abbrev pub if_set : Bool → ℕ → ℕ
if_set set bit = if set then bit else 0

-- the flags as one number
abbrev pub flags_number : FrameFlags → ℕ
flags_number f = if_set f.noise 1 + if_set f.patches 2 + if_set f.splines 16 + if_set f.use_lf_frame 32 + if_set f.skip_adaptive_lf_smoothing 128

-- the number of a mode
pub record IsModeNumber (n : ℕ) (mode : BlendMode) : Type 0 where
  pub spelled : is_spelled (Const 0) (Const 1) (Const 2) (Offset 3 2) n ≡ true
  pub small : nat_lt n 5 ≡ true
  pub meant : (if n == 0 then Replace else if n == 1 then Add else if n == 2 then Blend else if n == 3 then MulAdd else Mul) ≡ mode
  pub alpha : ((n == 2) || (n == 3)) ≡ uses_alpha mode
  pub product : (n == 4) ≡ is_product mode
  pub replaces : (n == 0) ≡ is_replace mode
