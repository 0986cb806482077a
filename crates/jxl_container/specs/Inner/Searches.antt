-- What is searched for among the boxes of a file, and how far they were searched.
use Rattle.std.specs.Prelude.{◌≡◌, ℕ, ◌≤◌, List, [], length, find, Bool, true, Option, IfSome}
use Rattle.jxl_container.specs.Inner.Walks.{Reach, seen_in}
use Rattle.jxl_container.specs.Metadata.{AreBoxes, is_compressed, is_damaged_exif, is_exif, is_xmp}
use Rattle.jxl_container.specs.declared.boxes.FileBox.{FileBox}
use Rattle.jxl_container.specs.declared.metadata.Sought.{Sought}
use Rattle.jxl_container.specs.declared.metadata.Sought.TheVariants.{Exif, DamagedExif, Xmp, Compressed}
use Rattle.jxl_container.specs.declared.seen.Seen.{Seen}

-- a box is of the kind that is searched for
abbrev pub is_sought : Sought → List ℕ → FileBox → Bool
is_sought Exif bytes b = is_exif bytes b
is_sought DamagedExif bytes b = is_damaged_exif bytes b
is_sought Xmp bytes b = is_xmp b
is_sought (Compressed kind) bytes b = is_compressed kind bytes b

-- a box that was found is of this kind, and within the file
abbrev pub IsInside : Sought → List ℕ → Option FileBox → Type 0
IsInside sought bytes first = IfSome first (λ b. (is_sought sought bytes b ≡ true) × (b.body ≤ b.end) × (b.end ≤ length bytes))

-- the first box of a file of this kind
abbrev pub HasFirst : Sought → List ℕ → Option FileBox → Type 0
HasFirst sought bytes first = (boxes : List FileBox) × AreBoxes bytes boxes × (first ≡ find (is_sought sought bytes) boxes)

-- boxes stand up to this place, have this, and this is the first of them that is searched for
pub record IsSearched (bytes : List ℕ) (sought : Sought) (place : ℕ) (seen : Seen) (first : Option FileBox) : Type 0 where
  pub boxes : List FileBox
  pub reach : Reach bytes [] 12 boxes place
  pub seen_is : seen ≡ seen_in bytes boxes
  pub first_is : first ≡ find (is_sought sought bytes) boxes
  pub inside : IsInside sought bytes first
  pub whole : IfSome seen.whole (λ b. (b.body ≤ b.end) × (b.end ≤ length bytes))
  pub within : place ≤ length bytes
