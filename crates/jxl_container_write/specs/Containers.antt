-- The boxes of a file that was written (ISO/IEC 18181-2).
use Rattle.std.specs.Prelude.{◌≡◌, ℕ, List, [], ◌∷◌, ◌++◌, slice_range, map, codes, true, Option, Some, None}
use Rattle.jxl_container.specs.Files.{Follow, has_signature}
use Rattle.jxl_container.specs.declared.boxes.FileBox.{FileBox}
use Rattle.jxl_container_write.specs.declared.container.Level.{Level}
use Rattle.jxl_container_write.specs.declared.container.Level.TheVariants.{Five, Ten}

-- the type of a box, as the number of its four bytes, and its contents
abbrev pub BoxContents : Type 0
BoxContents = ℕ × List ℕ

-- `ftyp`: the brand, version 0, and the one brand that the file is compatible with
abbrev pub file_type : BoxContents
file_type = (0x66747970, codes "jxl " ++ 0 ∷ 0 ∷ 0 ∷ 0 ∷ codes "jxl ")

-- `jxll`: the level of the codestream, if it is not 5
abbrev pub level_box : Level → List BoxContents
level_box Five = []
level_box Ten = (0x6A786C6C, 10 ∷ []) ∷ []

-- a box of this type, if present: these bytes, and then those that it is for
abbrev pub box_if : ℕ → List ℕ → Option (List ℕ) → List BoxContents
box_if kind head None = []
box_if kind head (Some bytes) = (kind, head ++ bytes) ∷ []

-- `Exif`, if present: the offset of the TIFF header, which is 0, and the bytes from there on
abbrev pub exif_box : Option (List ℕ) → List BoxContents
exif_box exif = box_if 0x45786966 (0 ∷ 0 ∷ 0 ∷ 0 ∷ []) exif

-- `xml `, if present: the packet
abbrev pub xmp_box : Option (List ℕ) → List BoxContents
xmp_box xmp = box_if 0x786D6C20 [] xmp

-- `jxlc`: the codestream
abbrev pub whole_box : List ℕ → BoxContents
whole_box codestream = (0x6A786C63, codestream)

-- the boxes of a file, in their order
abbrev pub boxes_of : List ℕ → Level → Option (List ℕ) → Option (List ℕ) → List BoxContents
boxes_of codestream level exif xmp = file_type ∷ (level_box level ++ exif_box exif ++ xmp_box xmp ++ whole_box codestream ∷ [])

-- After the signature the reader finds boxes of these types and contents, one behind another up to the end of the file.
pub record HasBoxes (file : List ℕ) (boxes : List BoxContents) : Type 0 where
  pub signature : has_signature file ≡ true
  pub places : List FileBox
  pub follow : Follow file [] 12 places None
  pub are : map (λ b. (b.kind, slice_range file b.body b.end)) places ≡ boxes
