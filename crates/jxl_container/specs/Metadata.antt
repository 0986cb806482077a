-- What boxes beside the codestream hold: Exif and XMP, and those in compressed boxes (ISO/IEC 18181-2, Exif box, XML box,
-- Brotli box).
use Rattle.std.specs.Prelude.{◌≡◌, ℕ, ◌+◌, List, [], slice_range, find, nat_le, ◌==◌, ◌&&◌, not, Bool, MatchBool, Option}
use Rattle.std.specs.List.{list_any}
use Rattle.std.specs.Option.{option_map}
use Rattle.jxl_container.specs.Boxes.{word_at}
use Rattle.jxl_container.specs.Files.{Follow, has_signature}
use Rattle.jxl_container.specs.declared.error.FileError.{FileError}
use Rattle.jxl_container.specs.declared.boxes.FileBox.{FileBox}

-- where the TIFF header of the Exif data in a box is: the first four bytes are its offset from the byte after them
abbrev pub exif_start : List ℕ → FileBox → ℕ
exif_start bytes b = b.body + 4 + word_at bytes b.body

-- an `Exif` box; one whose offset is within it, and one whose offset is not; an `xml ` box
abbrev pub is_exif_box : FileBox → Bool
is_exif_box b = b.kind == 0x45786966

abbrev pub is_exif : List ℕ → FileBox → Bool
is_exif bytes b = is_exif_box b && nat_le (exif_start bytes b) b.end

abbrev pub is_damaged_exif : List ℕ → FileBox → Bool
is_damaged_exif bytes b = is_exif_box b && not (nat_le (exif_start bytes b) b.end)

abbrev pub is_xmp : FileBox → Bool
is_xmp b = b.kind == 0x786D6C20

-- a compressed box, `brob`, whose contents begin with this type, that of the box before it was compressed
abbrev pub is_compressed : ℕ → List ℕ → FileBox → Bool
is_compressed kind bytes b = (b.kind == 0x62726F62) && nat_le (b.body + 4) b.end && (word_at bytes b.body == kind)

-- the boxes of a file up to the first error, before or after the codestream, from the second box on; none if the file is no boxes
abbrev pub AreBoxes : List ℕ → List FileBox → Type 0
AreBoxes bytes boxes = MatchBool (has_signature bytes) ((error : Option FileError) × Follow bytes [] 12 boxes error) (boxes ≡ [])

-- the Exif data of a file: of its first `Exif` box whose offset is within it, the bytes from the TIFF header on
abbrev pub HasExif : List ℕ → Option (List ℕ) → Type 0
HasExif bytes exif =
    (boxes : List FileBox) × AreBoxes bytes boxes × (exif ≡ option_map (λ b. slice_range bytes (exif_start bytes b) b.end) (find (is_exif bytes) boxes))

-- the XMP data of a file: the contents of its first box `xml `
abbrev pub HasXmp : List ℕ → Option (List ℕ) → Type 0
HasXmp bytes xmp = (boxes : List FileBox) × AreBoxes bytes boxes × (xmp ≡ option_map (λ b. slice_range bytes b.body b.end) (find is_xmp boxes))

-- whether a file has an `Exif` box whose offset is not within it
abbrev pub HasDamagedExif : List ℕ → Bool → Type 0
HasDamagedExif bytes result = (boxes : List FileBox) × AreBoxes bytes boxes × (result ≡ list_any (is_damaged_exif bytes) boxes)

-- whether a file has a compressed box of this type; of Exif; of XMP
abbrev pub HasCompressed : ℕ → List ℕ → Bool → Type 0
HasCompressed kind bytes result = (boxes : List FileBox) × AreBoxes bytes boxes × (result ≡ list_any (is_compressed kind bytes) boxes)

abbrev pub HasCompressedExif : List ℕ → Bool → Type 0
HasCompressedExif = HasCompressed 0x45786966

abbrev pub HasCompressedXmp : List ℕ → Bool → Type 0
HasCompressedXmp = HasCompressed 0x786D6C20
