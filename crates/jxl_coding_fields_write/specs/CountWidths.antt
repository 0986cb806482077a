-- The widths of counts, as a distribution signals them (ISO/IEC 18181-1, entropy decoding: ANS distribution decoding).
use Rattle.std.specs.Prelude.{ℕ, ◌-◌, List}
use Rattle.std.specs.List.{fold}
use Rattle.std.specs.Int.{w32, leading_zeros}
use Rattle.jxl_coding_codes.specs.Distributions.{Widths, no_widths, one_width}

-- the number of binary digits of a count
abbrev pub digit_count : ℕ → ℕ
digit_count count = 32 - leading_zeros w32 count

-- these widths, and that of another count
abbrev pub with_width : Widths → ℕ → Widths
with_width s count = one_width s (digit_count count)

-- the widths of these counts
abbrev pub count_widths : List ℕ → Widths
count_widths counts = fold with_width no_widths counts
