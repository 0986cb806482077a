-- How a frame is coded (ISO/IEC 18181-1, frame header: type, encoding, flags, upsampling).
use Rattle.std.specs.Prelude.{ℕ, ◌/◌, ◌%◌, ◌==◌, ◌&&◌, not, Bool, true, false, if◌then◌else◌, Option, Some, None}
use Rattle.std.specs.Option.{option_or}
use Rattle.jxlm_bits.specs.Grammar.{Grammar, number, flag, u32, give, ◌>>=◌}
use Rattle.jxlm_bits.specs.declared.bits.U32Spec.TheVariants.{Const}
use Rattle.jxl_image_header.specs.Fields.{long, when}
use Rattle.jxl_frame_header.specs.declared.coding.FrameType.{FrameType}
use Rattle.jxl_frame_header.specs.declared.coding.FrameType.TheVariants.{Regular, LfFrame, ReferenceOnly, SkipProgressive}
use Rattle.jxl_frame_header.specs.declared.coding.Encoding.{Encoding}
use Rattle.jxl_frame_header.specs.declared.coding.Encoding.TheVariants.{VarDct, Modular}
use Rattle.jxl_frame_header.specs.declared.coding.FrameFlags.{FrameFlags}
use Rattle.jxl_frame_header.specs.declared.coding.FrameCoding.{FrameCoding}
use Rattle.jxl_frame_header.specs.declared.refusal.Refusal.{Refusal}
use Rattle.jxl_frame_header.specs.declared.refusal.Refusal.TheVariants as refusals

-- the flags, each by its bit; the others mean nothing
abbrev pub flags_of : ℕ → FrameFlags
flags_of v =
    let has : ℕ → Bool = λ bit. v / bit % 2 == 1 in
    record { noise = v % 2 == 1; patches = has 2; splines = has 16; use_lf_frame = has 32; skip_adaptive_lf_smoothing = has 128 }

-- how much smaller than the picture something is coded
unfoldable pub factor : Grammar ℕ
factor = u32 (Const 1) (Const 2) (Const 4) (Const 8)

-- How a frame is coded whose colours are XYB or not; how the parts of YCbCr are sampled is not looked at.
unfoldable pub coding : Bool → Bool → Grammar FrameCoding
coding follows xyb = do
  n ← when follows (number 2) 0
  modular ← when follows flag false
  flags ← when follows long 0 >>= λ v. give (flags_of v)
  ycbcr ← when (follows && not xyb) flag false
  _ ← when (ycbcr && not flags.use_lf_frame) (number 6) 0
  upsampling ← when (follows && not flags.use_lf_frame) factor 1
  let kind = if n == 0 then Regular else if n == 1 then LfFrame else if n == 2 then ReferenceOnly else SkipProgressive
  let encoding = if modular then Modular else VarDct
  give (record { frame_type = kind; encoding = encoding; flags = flags; do_ycbcr = ycbcr; upsampling = upsampling })

abbrev pub is_modular : Encoding → Bool
is_modular VarDct = false
is_modular Modular = true

-- What of these is not supported, the first that holds: of an image with floats or not, and with an extra
-- channel of a size of its own or not. Patches are added to whole numbers alone, and where all channels have one size.
abbrev pub type_refusal : FrameType → Option Refusal
type_refusal LfFrame = Some refusals.LfFrame
type_refusal SkipProgressive = Some refusals.SkippedFrame
type_refusal other = None

abbrev pub coding_refusal : Bool → Bool → FrameCoding → Option Refusal
coding_refusal floats shifts c = option_or (type_refusal c.frame_type) (
    if not (is_modular c.encoding) then Some refusals.VarDct else
    if c.flags.noise then Some refusals.Noise else
    if c.flags.patches && floats then Some refusals.FloatPatches else
    if c.flags.patches && shifts then Some refusals.ShiftedPatches else
    if c.flags.splines then Some refusals.Splines else
    if c.flags.use_lf_frame then Some refusals.UseLfFrame else
    if c.do_ycbcr then Some refusals.YCbCr else
    if c.upsampling == 1 then None else Some refusals.Upsampling)
