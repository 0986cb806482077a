-- The first 128 bytes of a profile (ISO/IEC 18181-1, ICC profile: header).
use Rattle.std.specs.Prelude.{ℕ, ◌+◌, ◌-◌, ◌%◌, List, slice_index, codes, nat_lt, nat_le, ◌==◌, ◌&&◌, if◌then◌else◌}
use Rattle.jxl_icc.specs.Numbers.{word_bytes}

-- what is predicted for the bytes 41 to 43: the rest of a platform's name, by the bytes from 40 on: Apple, Microsoft, Silicon Graphics, Sun
unfoldable pub platform : List ℕ → ℕ → ℕ
platform header i =
    if slice_index header 40 == 65 then slice_index (codes "APPL") (i - 40) else
    if slice_index header 40 == 77 then slice_index (codes "MSFT") (i - 40) else
    if (slice_index header 40 == 83) && nat_lt 41 i && (slice_index header 41 == 71) then slice_index (codes "SGI ") (i - 40) else
    if (slice_index header 40 == 83) && nat_lt 41 i && (slice_index header 41 == 85) then slice_index (codes "SUNW") (i - 40) else 0

-- What is predicted for byte i of a profile of this size, by the bytes before it: the size, major version 4, a display's
-- profile of RGB over XYZ, `acsp`, the white point D50, and as creator whom byte 4 on names as the preferred software.
unfoldable pub predicted : ℕ → List ℕ → ℕ → ℕ
predicted size header i =
    if nat_lt i 4 then slice_index (word_bytes size) i else if i == 8 then 4 else
    if nat_le 12 i && nat_lt i 24 then slice_index (codes "mntrRGB XYZ ") (i - 12) else
    if nat_le 36 i && nat_lt i 40 then slice_index (codes "acsp") (i - 36) else
    if nat_le 41 i && nat_lt i 44 then platform header i else
    if i == 70 then 246 else if i == 71 then 214 else if i == 73 then 1 else if i == 78 then 211 else if i == 79 then 45 else
    if nat_le 80 i && nat_lt i 84 then slice_index header (i - 76) else 0

-- byte i of the header: that of the data, from position d on, and what is predicted, modulo 256
abbrev pub header_byte : List ℕ → ℕ → ℕ → List ℕ → ℕ → ℕ
header_byte bytes d size header i = (slice_index bytes (d + i) + predicted size header i) % 256
