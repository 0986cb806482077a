-- How a channel is smaller than its picture (ISO/IEC 18181-1, Modular: channel list; frame: upsampling of channels).
use Rattle.std.specs.Prelude.{ℕ, ◌*◌, ◌^◌, ◌≤◌, List, slice_index, Bool, true, false, ◌&&◌, ◌||◌, ◌==◌, if◌then◌else◌, IsTrue, ℤ, pos, ◌≤ℤ◌, unsigned_abs}
use Rattle.std.specs.Int.{w32, div_ceil, cast_signed}
use Rattle.std.specs.List.{list_any}
use Rattle.jxlm_transform.specs.declared.param.ChannelShift.{ChannelShift}
use Rattle.jxlm_transform.specs.declared.param.ChannelShift.TheVariants.{JpegUpsampling, Shifts, Raw}

-- a side along which some channel has two samples for one of another: half of it, rounded up, or else twice that
abbrev pub upsampled_side : Bool → Bool → ℕ → ℕ
upsampled_side false halved n = n
upsampled_side true halved n = if halved then div_ceil n 2 else 2 * div_ceil n 2

-- the sides of a channel of a picture of these sides
abbrev pub shift_size : ChannelShift → ℕ × ℕ → ℕ × ℕ
shift_size (JpegUpsampling has_h h has_v v) size = (upsampled_side has_h h size.0, upsampled_side has_v v size.1)
shift_size (Shifts s) size = (div_ceil size.0 (2 ^ s), div_ceil size.1 (2 ^ s))
shift_size (Raw h v) size = (div_ceil size.0 (2 ^ unsigned_abs h), div_ceil size.1 (2 ^ unsigned_abs v))

-- how often a channel is halved across, and down; a single shift is read as a signed number of 32 bits
abbrev pub shifts_of : ChannelShift → ℤ × ℤ
shifts_of (JpegUpsampling has_h h has_v v) = (if h then pos 1 else pos 0, if v then pos 1 else pos 0)
shifts_of (Shifts s) = (cast_signed w32 s, cast_signed w32 s)
shifts_of (Raw h v) = (h, v)

-- The channel of this index, by the samples that each of three channels has across and down: the value 0 stands for 1
-- and 1, 1 for 2 and 2, 2 for 2 and 1, 3 for 1 and 2. A channel is halved along a side where it has 1 and some
-- channel has 2.
abbrev pub jpeg_shift : List ℕ → ℕ → ChannelShift
jpeg_shift values i =
    let value : ℕ = slice_index values i in
    let has_h : Bool = list_any (λ v. v == 1 || v == 2) values in
    let has_v : Bool = list_any (λ v. v == 1 || v == 3) values in
    JpegUpsampling has_h (has_h && (value == 0 || value == 3)) has_v (has_v && (value == 0 || value == 2))

-- a shift of a channel that is given
abbrev pub IsShift : ℤ → Type 0
IsShift z = (pos 0 ≤ℤ z) × (z ≤ℤ pos 30)

-- Shifts go from 0 to 30, and a channel is halved only along a side along which some channel has two samples.
abbrev pub IsValidShift : ChannelShift → Type 0
IsValidShift (JpegUpsampling has_h h has_v v) = (IsTrue h → IsTrue has_h) × (IsTrue v → IsTrue has_v)
IsValidShift (Shifts s) = s ≤ 30
IsValidShift (Raw h v) = IsShift h × IsShift v
