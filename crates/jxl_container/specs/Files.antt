-- The codestream of a file (ISO/IEC 18181-2): the file itself, or the contents of its boxes; and the error of those after it.
use Rattle.std.specs.Prelude.{◌≡◌, ℕ, ◌+◌, ◌%◌, List, [], ◌∷◌, ◌++◌, length, slice_range, find, count_by, nat_eq, nat_lt, nat_le, ◌==◌, ◌&&◌, ◌||◌, not, Bool, if◌then◌else◌, MatchBool, true, Option, Some, None, unwrap_or, Result, Ok, Err, is_ok}
use Rattle.std.specs.Option.{option_map_or}
use Rattle.std.specs.List.{list_any, flat_map, filter, starts_with}
use Rattle.jxl_container.specs.Boxes.{word_at, box_from, first_of, outside}
use Rattle.jxl_container.specs.declared.error.FileError.{FileError}
use Rattle.jxl_container.specs.declared.error.FileError.TheVariants.{NotJpegXl, BoxTooSmall, FileType, SecondCodestream, PartAfterLast, PartOutOfOrder, NoLastPart, NoCodestream, JpegReconstruction, CompressedCodestream, OutOfMemory}
use Rattle.jxl_container.specs.declared.boxes.FileBox.{FileBox}
use Rattle.jxl_container.specs.declared.codestream.Codestream.{Codestream}
use Rattle.jxl_container.specs.declared.codestream.Codestream.TheVariants.{Slice, Joined}

-- a box with a whole codestream, `jxlc`; with a part of it, `jxlp`; with the last part: its number has the highest bit set
abbrev pub is_whole : FileBox → Bool
is_whole b = b.kind == 0x6A786C63

abbrev pub is_part : FileBox → Bool
is_part b = b.kind == 0x6A786C70

abbrev pub is_last : List ℕ → FileBox → Bool
is_last bytes b = is_part b && nat_le 0x80000000 (word_at bytes b.body)

-- Why a box may not stand after others: it is not in the file; the first is no file type box, `ftyp`, of the brand
-- `jxl `, or another is one; there is a codestream before; a part or a compressed box, `brob`, has no four bytes; a part
-- follows the last, or its number is not how many parts are before it; a compressed box stands for a codestream, or there
-- is a `jbrd`. Other boxes may stand anywhere.
unfoldable pub fault : List ℕ → List FileBox → FileBox → Option FileError
fault bytes before b =
    let first : Bool = length before == 0 in
    let short : Bool = nat_lt b.end (b.body + 4) in
    let head : ℕ = word_at bytes b.body in
    first_of (outside bytes b ++
    (if b.kind == 0x66747970 then not first || short || not (head == 0x6A786C20) else first, FileType) ∷
    ((is_whole b || is_part b) && list_any is_whole before || is_whole b && list_any is_part before, SecondCodestream) ∷
    ((is_part b || (b.kind == 0x62726F62)) && short, BoxTooSmall) ∷
    (is_part b && list_any (is_last bytes) before, PartAfterLast) ∷
    (is_part b && not (head % 0x80000000 == count_by is_part before), PartOutOfOrder) ∷
    ((b.kind == 0x62726F62) && ((head == 0x6A786C63) || (head == 0x6A786C70)), CompressedCodestream) ∷
    (b.kind == 0x6A627264, JpegReconstruction) ∷ [])

-- the codestream of boxes, after which comes this error, or the end of the file: the contents of the whole one, or of all parts
-- after their numbers, where the last is there; else there is none by that error, or by what is missing at the end
unfoldable pub contents : List ℕ → List FileBox → Option FileError → Result (List ℕ) FileError
contents bytes boxes error = option_map_or (λ b. Ok (slice_range bytes b.body b.end)) (find is_whole boxes) (
    if list_any (is_last bytes) boxes then Ok (flat_map (λ b. slice_range bytes (b.body + 4) b.end) (filter is_part boxes)) else
    Err (unwrap_or error (if list_any is_part boxes then NoLastPart else NoCodestream)))

-- These boxes follow one another from p on, after others, up to the end of the file, or to the first error: the fault of what
-- stands next.
abbrev pub Follow : List ℕ → List FileBox → ℕ → List FileBox → Option FileError → Type 0
Follow bytes before p (b ∷ boxes) error = (b ≡ box_from bytes p) × (fault bytes before b ≡ None) × Follow bytes (before ++ b ∷ []) b.end boxes error
Follow bytes before p [] error = MatchBool (p == length bytes) (error ≡ None)
    ((e : FileError) × (fault bytes before (box_from bytes p) ≡ Some e) × (error ≡ Some e))

-- the file begins as a codestream
abbrev pub is_bare : List ℕ → Bool
is_bare bytes = starts_with nat_eq bytes (255 ∷ 10 ∷ [])

-- the file begins with the signature box
abbrev pub has_signature : List ℕ → Bool
has_signature bytes = starts_with nat_eq bytes (0 ∷ 0 ∷ 0 ∷ 12 ∷ 74 ∷ 88 ∷ 76 ∷ 32 ∷ 13 ∷ 10 ∷ 135 ∷ 10 ∷ [])

-- the codestream of a file: itself, or that of the boxes from byte 12 on; or why there is none
abbrev pub HasCodestream : List ℕ → Result (List ℕ) FileError → Type 0
HasCodestream bytes result =
    MatchBool (is_bare bytes) (result ≡ Ok bytes) (MatchBool (has_signature bytes)
    ((boxes : List FileBox) × (error : Option FileError) × Follow bytes [] 12 boxes error × (result ≡ contents bytes boxes error)) (result ≡ Err NotJpegXl))

-- the first error after the codestream of a file, if there is one: that of the boxes, among which the codestream is
abbrev pub HasLaterError : List ℕ → Option FileError → Type 0
HasLaterError bytes error = MatchBool (is_bare bytes) (error ≡ None)
    ((boxes : List FileBox) × Follow bytes [] 12 boxes error × (is_ok (contents bytes boxes error) ≡ true))

-- the bytes of a codestream that was found
abbrev pub stream_of : Codestream → List ℕ
stream_of (Slice s) = s.now
stream_of (Joined v) = v.items

-- the fact, unless it is out of memory, which a call that takes memory may return at any time
abbrev pub UnlessMemory : FileError → Type 0 → Type 0
UnlessMemory OutOfMemory P = Unit {0}
UnlessMemory e P = P
