-- Whole numbers.
use Rattle.std.specs.Prelude.{ℕ, ◌-◌, ◌/◌, ◌%◌, ◌==◌, if◌then◌else◌, ℤ, pos, negsuc, ◌+ℤ◌, ◌-ℤ◌, unsigned_abs}
use Rattle.std.specs.Int.{w64, int_min, int_max, leading_zeros}

-- the signed number of a token: 2k stands for k, and 2k + 1 for -k - 1 (Modular: signed numbers)
abbrev pub unpack : ℕ → ℤ
unpack token = if token % 2 == 0 then pos (token / 2) else negsuc (token / 2)

-- z without its sign
abbrev pub absolute : ℤ → ℤ
absolute z = pos (unsigned_abs z)

-- z, clamped between low and high
abbrev pub clamp : ℤ → ℤ → ℤ → ℤ
clamp low high z = int_max low (int_min z high)

-- the maximum k for which 2 ^ k is at most n, and 0 where n is 0; for n below 2 ^ 64
abbrev pub floor_log2 : ℕ → ℕ
floor_log2 n = 63 - leading_zeros w64 n

-- n + w - nw, clamped between the minimum and the maximum of n and w
abbrev pub clamped_gradient : ℤ → ℤ → ℤ → ℤ
clamped_gradient n w nw = clamp (int_min n w) (int_max n w) (n +ℤ w -ℤ nw)
