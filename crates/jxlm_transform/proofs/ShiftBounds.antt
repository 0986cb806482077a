-- Sides and shifts of a channel that may be given.
use Rattle.std.proofs.Common.{◌≡◌, ℕ, ◌/◌, ◌^◌, ◌<◌, ◌≤◌, Bool, true, false, if◌then◌else◌, pos, arith, rules, List}
use Rattle.std.proofs.Math.Nat.{le-mul_of_pos_right}
use Rattle.std.proofs.lemmas.Nat.{pow_pos, div-add-mod'}
use Rattle.std.proofs.lemmas.Int.{ints, to_z_pos}
use Rattle.std.specs.Int.{w32, div_ceil}
use Rattle.std.specs.Int.RustNames.{unsigned_abs}
use Rattle.jxlm_transform.specs.Params.{IsSide}
use Rattle.jxlm_transform.specs.Shifts.{upsampled_side, shift_size, jpeg_shift, shifts_of, IsShift, IsValidShift}
use Rattle.jxlm_transform.specs.declared.param.ChannelShift.{ChannelShift}
use Rattle.jxlm_transform.specs.declared.param.ChannelShift.TheVariants.{JpegUpsampling, Shifts, Raw}

-- a part of a number, rounded up, is at most the number
pub div_ceil-le_self : (n m : ℕ) → 0 < m → div_ceil n m ≤ n
div_ceil-le_self n m h = omega (arith, div-add-mod' n m, le-mul_of_pos_right (n / m) h)

-- a side of a channel of a JPEG picture can be larger by one than the picture's, but does not pass the limit
IsSide-upsampled_side : (has halved : Bool) (n : ℕ) → IsSide n → IsSide (upsampled_side has halved n)
IsSide-upsampled_side false halved n h = h
IsSide-upsampled_side true false n h = omega arith
IsSide-upsampled_side true true n h = omega arith

-- A channel of a picture within the limits is within them, too.
pub IsSide-shift_size : (s : ChannelShift) (w h : ℕ) → IsSide w → IsSide h → IsSide (shift_size s (w, h)).0 × IsSide (shift_size s (w, h)).1
IsSide-shift_size (JpegUpsampling has_h h has_v v) w n fits_w fits_n = (IsSide-upsampled_side has_h h w fits_w, IsSide-upsampled_side has_v v n fits_n)
IsSide-shift_size (Shifts s) w n fits_w fits_n =
    let across = div_ceil-le_self w (2 ^ s) (pow_pos s) in
    let down = div_ceil-le_self n (2 ^ s) (pow_pos s) in
    (omega arith, omega arith)
IsSide-shift_size (Raw h v) w n fits_w fits_n =
    let across = div_ceil-le_self w (2 ^ unsigned_abs h) (pow_pos (unsigned_abs h)) in
    let down = div_ceil-le_self n (2 ^ unsigned_abs v) (pow_pos (unsigned_abs v)) in
    (omega arith, omega arith)

-- a single shift that may be given is itself as a signed number
pub hshift-shifts : (s : ℕ) → IsValidShift (Shifts s) → (shifts_of (Shifts s)).0 ≡ pos s
hshift-shifts s valid = to_z_pos w32 s (omega arith)

IsShift-pos : (n : ℕ) → n ≤ 30 → IsShift (pos n)
IsShift-pos n h = (omega (arith, ints), omega (arith, ints))

halvings : (halved : Bool) → IsShift (if halved then pos 1 else pos 0)
halvings true = IsShift-pos 1 (omega arith)
halvings false = IsShift-pos 0 (omega arith)

-- The shifts of a channel that may be given go from 0 to 30.
pub IsShift-hshift : (s : ChannelShift) → IsValidShift s → IsShift (shifts_of s).0 × IsShift (shifts_of s).1
IsShift-hshift (JpegUpsampling has_h h has_v v) valid = (halvings h, halvings v)
IsShift-hshift (Shifts s) valid = rw (hshift-shifts s valid) (IsShift-pos s valid, IsShift-pos s valid)
IsShift-hshift (Raw h v) valid = valid

-- A channel of a JPEG picture is halved only along a side along which some channel has two samples.
pub IsValidShift-jpeg_shift : (values : List ℕ) (i : ℕ) → IsValidShift (jpeg_shift values i)
IsValidShift-jpeg_shift values i = (search rules, search rules)
