-- Tables that are transposed, and prediction by a polynomial (ISO/IEC 18181-1, ICC profile: main content).
use Rattle.std.specs.Prelude.{ℕ, ◌+◌, ◌-◌, ◌*◌, ◌/◌, ◌%◌, List, slice_index, nat_lt, ◌==◌, if◌then◌else◌}
use Rattle.jxl_icc.specs.Numbers.{word_bytes}
use Rattle.jxl_icc.specs.declared.linear.Linear.{Linear}

-- the number of these 1, 2 or 4 bytes from p on, the first the most significant
abbrev pub big : List ℕ → ℕ → ℕ → ℕ
big bytes p width = if width == 1 then slice_index bytes p else
    if width == 2 then slice_index bytes p * 256 + slice_index bytes (p + 1) else
    (slice_index bytes p * 256 + slice_index bytes (p + 1)) * 65536 + (slice_index bytes (p + 2) * 256 + slice_index bytes (p + 3))

-- how many numbers have 1, 2 or 4 bytes
abbrev pub range : ℕ → ℕ
range width = if width == 1 then 256 else if width == 2 then 65536 else 4294967296

-- the value after the last three of a sequence that is constant, linear or quadratic, modulo m: a, 2a - b, or 3a - 3b + c
abbrev pub extrapolated : ℕ → ℕ → ℕ → ℕ → ℕ → ℕ
extrapolated order m a b c = if order == 0 then a else
    if order == 1 then (2 * a + m - b) % m else (3 * a + 3 * (m - b) + c) % m

-- What is predicted for byte i after the first `start` bytes: the byte of the value that it belongs to, extrapolated from
-- the values at once, twice and three times the stride before.
unfoldable pub linear_byte : List ℕ → ℕ → Linear → ℕ → ℕ
linear_byte out start by i =
    let p = start + i / by.width * by.width in
    let value = extrapolated by.order (range by.width) (big out (p - by.stride) by.width)
    (big out (p - 2 * by.stride) by.width) (big out (p - 3 * by.stride) by.width) in
    slice_index (word_bytes value) (4 - by.width + i % by.width)

-- Which of n bytes, the rows of a table of this many rows one after another, is byte i of its columns one after another: rows
-- have `columns` bytes, of which the last row may lack some, and columns without them are one byte shorter.
unfoldable pub source : ℕ → ℕ → ℕ → ℕ
source n width i =
    let columns = (n + width - 1) / width in
    let whole = n / columns in
    let longer = n % columns in
    if nat_lt i (longer * (whole + 1)) then i % (whole + 1) * columns + i / (whole + 1) else
    let k = i - longer * (whole + 1) in
    k % whole * columns + longer + k / whole

-- byte i of n bytes of the data from position d on, transposed
abbrev pub transposed_byte : List ℕ → ℕ → ℕ → ℕ → List ℕ → ℕ → ℕ
transposed_byte bytes d n width out i = slice_index bytes (d + source n width i)

-- the same, and what is predicted, modulo 256
abbrev pub predicted_byte : List ℕ → ℕ → ℕ → Linear → ℕ → List ℕ → ℕ → ℕ
predicted_byte bytes d n by start out i = (slice_index bytes (d + source n by.width i) + linear_byte out start by i) % 256
