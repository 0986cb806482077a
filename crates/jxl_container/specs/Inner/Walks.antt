-- How far the boxes of a file were walked, and what those before a place have.
use Rattle.std.specs.Prelude.{◌≡◌, ◌≤◌, ℕ, ◌+◌, ◌*◌, ◌%◌, List, [], ◌∷◌, ◌++◌, length, slice_range, find, count_by, nat_lt, ◌==◌, ◌&&◌, ◌||◌, not, if◌then◌else◌, Option, Some, None, IfSome, is_some, unwrap_or, false, Result, Ok, Err}
use Rattle.std.specs.List.{list_any, flat_map}
use Rattle.std.specs.Option.{option_or, option_map_or}
use Rattle.jxl_container.specs.Boxes.{word_at, box_from}
use Rattle.jxl_container.specs.Files.{Follow, contents, fault, is_whole, is_part, is_last, stream_of}
use Rattle.jxl_container.specs.declared.error.FileError.{FileError}
use Rattle.jxl_container.specs.declared.error.FileError.TheVariants.{TruncatedBox, BoxTooSmall, FileType, SecondCodestream, PartAfterLast, PartOutOfOrder, NoLastPart, NoCodestream, JpegReconstruction, CompressedCodestream}
use Rattle.jxl_container.specs.declared.boxes.FileBox.{FileBox}
use Rattle.jxl_container.specs.declared.codestream.Found.{Found}
use Rattle.jxl_container.specs.declared.seen.Seen.{Seen}

-- the box from p on of this size, its contents from body on, both in the file
unfoldable pub sized_box : List ℕ → ℕ → ℕ → ℕ → ℕ → Result FileBox FileError
sized_box bytes p kind body size =
    if nat_lt (p + size) body then Err BoxTooSmall else
    if nat_lt (length bytes) (p + size) then Err TruncatedBox else
    Ok (record { kind = kind; body = body; end = p + size })

-- a box whose size stands in eight bytes after its type
unfoldable pub long_box : List ℕ → ℕ → ℕ → Result FileBox FileError
long_box bytes p kind =
    if nat_lt (length bytes) (p + 16) then Err TruncatedBox else
    sized_box bytes p kind (p + 16) (word_at bytes (p + 8) * 4294967296 + word_at bytes (p + 12))

-- the box from p on, case by case
unfoldable pub box_by_size : List ℕ → ℕ → Result FileBox FileError
box_by_size bytes p =
    if nat_lt (length bytes) (p + 8) then Err TruncatedBox else
    if word_at bytes p == 0 then Ok (record { kind = word_at bytes (p + 4); body = p + 8; end = length bytes }) else
    if word_at bytes p == 1 then long_box bytes p (word_at bytes (p + 4)) else
    sized_box bytes p (word_at bytes (p + 4)) (p + 8) (word_at bytes p)

-- the bytes of a part, after its number
abbrev pub part_of : List ℕ → FileBox → List ℕ
part_of bytes b = if is_part b then slice_range bytes (b.body + 4) b.end else []

-- what boxes have: none at all, the whole codestream, how many parts, and whether one is the last
abbrev pub seen_in : List ℕ → List FileBox → Seen
seen_in bytes boxes = record {
  first = length boxes == 0;
  whole = find is_whole boxes;
  parts = count_by is_part boxes;
  last = list_any (is_last bytes) boxes;
}

-- why a box may not stand after those that have this, kind by kind
abbrev pub first_fault : List ℕ → FileBox → Option FileError
first_fault bytes b =
    if (b.kind == 0x66747970) && not (nat_lt b.end (b.body + 4)) && (word_at bytes b.body == 0x6A786C20) then None else Some FileType

abbrev pub part_fault : List ℕ → Seen → FileBox → Option FileError
part_fault bytes seen b =
    if is_some seen.whole then Some SecondCodestream else
    if nat_lt b.end (b.body + 4) then Some BoxTooSmall else
    if seen.last then Some PartAfterLast else
    if word_at bytes b.body % 0x80000000 == seen.parts then None else Some PartOutOfOrder

abbrev pub compressed_fault : List ℕ → FileBox → Option FileError
compressed_fault bytes b =
    if nat_lt b.end (b.body + 4) then Some BoxTooSmall else
    if (word_at bytes b.body == 0x6A786C63) || (word_at bytes b.body == 0x6A786C70) then Some CompressedCodestream else None

abbrev pub later_fault : List ℕ → Seen → FileBox → Option FileError
later_fault bytes seen b =
    if is_whole b then (if is_some seen.whole || not (seen.parts == 0) then Some SecondCodestream else None) else
    if is_part b then part_fault bytes seen b else
    if b.kind == 0x62726F62 then compressed_fault bytes b else
    if b.kind == 0x6A627264 then Some JpegReconstruction else
    if b.kind == 0x66747970 then Some FileType else None

unfoldable pub fault_by_kind : List ℕ → Seen → FileBox → Option FileError
fault_by_kind bytes seen b = if seen.first then first_fault bytes b else later_fault bytes seen b

-- the codestream of boxes that have this, with these parts joined, after which comes this error
unfoldable pub contents_of : List ℕ → Seen → List ℕ → Option FileError → Result (List ℕ) FileError
contents_of bytes seen parts error = option_map_or (λ b. Ok (slice_range bytes b.body b.end)) seen.whole
    (if seen.last then Ok parts else Err (unwrap_or error (if seen.parts == 0 then NoCodestream else NoLastPart)))

-- what was returned is this codestream with this error after it, or why there is none
abbrev pub Finishes : Result (List ℕ) FileError → Option FileError → Result Found FileError → Type 0
Finishes expected error (Ok found) = (expected ≡ Ok (stream_of found.codestream)) × (found.later_error ≡ error)
Finishes expected error (Err e) = expected ≡ Err e

-- boxes follow one another after the signature up to the end of the file, or to this error; all have this
abbrev pub Boxed : List ℕ → Option FileError → Result (List ℕ) FileError → Type 0
Boxed bytes error result = (boxes : List FileBox) × Follow bytes [] 12 boxes error × (result ≡ contents bytes boxes error)

-- what boxes have with one more
abbrev pub with_box : List ℕ → Seen → FileBox → Seen
with_box bytes seen b = record {
  first = false;
  whole = option_or seen.whole (if is_whole b then Some b else None);
  parts = if is_part b then seen.parts + 1 else seen.parts;
  last = seen.last || is_last bytes b;
}

-- boxes that follow one another from p to q after others, each of which is allowed there
abbrev pub Reach : List ℕ → List FileBox → ℕ → List FileBox → ℕ → Type 0
Reach bytes before p [] q = p ≡ q
Reach bytes before p (b ∷ boxes) q = (b ≡ box_from bytes p) × (fault bytes before b ≡ None) × Reach bytes (before ++ b ∷ []) b.end boxes q

-- boxes stand up to this place, have this, and their parts are joined
pub record IsAt (bytes : List ℕ) (place : ℕ) (seen : Seen) (parts : List ℕ) : Type 0 where
  pub boxes : List FileBox
  pub reach : Reach bytes [] 12 boxes place
  pub seen_is : seen ≡ seen_in bytes boxes
  pub parts_are : parts ≡ flat_map (part_of bytes) boxes
  pub whole : IfSome seen.whole (λ b. (b.body ≤ b.end) × (b.end ≤ length bytes))
  pub within : place ≤ length bytes
