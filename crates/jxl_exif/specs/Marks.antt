-- The mark before the TIFF header of Exif data in JPEG files (Exif 2.3, 4.5.4: APP1).
use Rattle.std.specs.Prelude.{ℕ, List, [], ◌∷◌, drop, nat_eq, if◌then◌else◌}
use Rattle.std.specs.List.{starts_with}

-- the data from their TIFF header on: without `Exif` and two null bytes, if they begin with these
abbrev pub from_header : List ℕ → List ℕ
from_header bytes = if starts_with nat_eq bytes (0x45 ∷ 0x78 ∷ 0x69 ∷ 0x66 ∷ 0 ∷ 0 ∷ []) then drop 6 bytes else bytes
