-- Boxes as bytes (ISO/IEC 18181-2, box structure).
use Rattle.std.specs.Prelude.{ℕ, ◌+◌, ◌/◌, ◌%◌, ◌^◌, List, [], ◌∷◌, ◌++◌, length, nat_lt, if◌then◌else◌}
use Rattle.std.specs.List.{flat_map}
use Rattle.std.specs.Int.{w32, to_be_bytes}
use Rattle.jxl_container_write.specs.Containers.{BoxContents}

-- four bytes, the first the most significant
abbrev pub word : ℕ → List ℕ
word v = to_be_bytes w32 v

-- the header of a box with this number of bytes of contents: its size, in four bytes, or in eight after its type
abbrev pub header : ℕ → ℕ → List ℕ
header kind n =
    if nat_lt (8 + n) (2 ^ 32) then word (8 + n) ++ word kind
    else word 1 ++ word kind ++ word ((16 + n) / 2 ^ 32) ++ word ((16 + n) % 2 ^ 32)

-- a box
abbrev pub box_bytes : BoxContents → List ℕ
box_bytes b = header b.0 (length b.1) ++ b.1

-- boxes one behind another
abbrev pub all_bytes : List BoxContents → List ℕ
all_bytes boxes = flat_map box_bytes boxes

-- the box that each such file begins with
abbrev pub signature : List ℕ
signature = 0 ∷ 0 ∷ 0 ∷ 12 ∷ 74 ∷ 88 ∷ 76 ∷ 32 ∷ 13 ∷ 10 ∷ 135 ∷ 10 ∷ []
