-- The header of a PAM file: lines of a keyword and a value (netpbm: PAM format).
use Rattle.std.specs.Prelude.{◌≡◌, ◌≤◌, ℕ, zero, suc, ◌+◌, ◌==◌, ◌||◌, List, slice_index, slice_range, codes, true, false, if◌then◌else◌, Option, Some, None, Result, Ok, Err, IfSome}
use Rattle.std.specs.Str.{bytes_eq}
use Rattle.jxl_netpbm_read.specs.Words.{and_then, number_from, word_from}
use Rattle.jxl_netpbm_read.specs.Parts.{bits_from, channel_count, is_side, side_from}
use Rattle.jxl_netpbm_read.specs.declared.error.NetpbmError.{NetpbmError}
use Rattle.jxl_netpbm_read.specs.declared.error.NetpbmError.TheVariants.{InvalidHeader, MissingLine, Channels}
use Rattle.jxl_netpbm_read.specs.declared.header.Header.{Header}
use Rattle.jxl_netpbm_read.specs.declared.header.Storage.TheVariants.{Numbers}
use Rattle.jxl_netpbm_read.specs.declared.pam.Keyword.{Keyword}
use Rattle.jxl_netpbm_read.specs.declared.pam.Keyword.TheVariants.{Width, Height, Depth, Maximum, TupleType, End}
use Rattle.jxl_netpbm_read.specs.declared.pam.Lines.{Lines}
use Rattle.jxl_netpbm_read.specs.declared.pam.Parsed.{Parsed}
use Rattle.jxl_netpbm_read.specs.declared.pam.TupleType.{TupleType as Kind}

abbrev pub keyword_of : List ℕ → Option Keyword
keyword_of word =
    if bytes_eq word (codes "WIDTH") then Some Width else if bytes_eq word (codes "HEIGHT") then Some Height else
    if bytes_eq word (codes "DEPTH") then Some Depth else if bytes_eq word (codes "MAXVAL") then Some Maximum else
    if bytes_eq word (codes "TUPLTYPE") then Some TupleType else if bytes_eq word (codes "ENDHDR") then Some End else None

-- the types of tuples by their names: grey or red, green and blue, with alpha or not
abbrev pub type_of : List ℕ → Option Kind
type_of word =
    if bytes_eq word (codes "GRAYSCALE") || bytes_eq word (codes "BLACKANDWHITE") then Some (record { grey = true; alpha = false }) else
    if bytes_eq word (codes "GRAYSCALE_ALPHA") || bytes_eq word (codes "BLACKANDWHITE_ALPHA") then Some (record { grey = true; alpha = true }) else
    if bytes_eq word (codes "RGB") then Some (record { grey = false; alpha = false }) else
    if bytes_eq word (codes "RGB_ALPHA") then Some (record { grey = false; alpha = true }) else None

-- the type of tuples of this depth if none is named: one or two channels are grey, and the second or fourth is alpha
abbrev pub type_by_depth : ℕ → Kind
type_by_depth depth = record { grey = (depth == 1) || (depth == 2); alpha = (depth == 2) || (depth == 4) }

abbrev pub type_or : Option Kind → ℕ → Kind
type_or (Some k) depth = k
type_or None depth = type_by_depth depth

-- a type of tuples that has this number of channels
abbrev pub type_at : Kind → ℕ → Result Kind NetpbmError
type_at k depth = if channel_count k.grey k.alpha == depth then Ok k else Err Channels

-- the value of a line that has to be present
abbrev pub line_value : Option ℕ → Result ℕ NetpbmError
line_value (Some v) = Ok v
line_value None = Err MissingLine

-- the header of these lines, after which samples begin at this byte
unfoldable pub header_by_lines : Lines → ℕ → Result Header NetpbmError
header_by_lines l start =
    and_then (line_value l.width) (λ width. and_then (line_value l.height) (λ height. and_then (line_value l.depth) (λ depth.
    and_then (line_value l.bits) (λ bits. and_then (type_at (type_or l.tuple_type depth) depth) (λ k.
    Ok (record { width = width; height = height; grey = k.grey; alpha = k.alpha; storage = Numbers bits; start = start }))))))

-- the lines with this type of tuples, whose word ends here
abbrev pub with_type : Lines → Option Kind → ℕ → Result Parsed NetpbmError
with_type l (Some k) after = Ok (record { lines = record l { tuple_type = Some k }; after = after; ended = false })
with_type l None after = Err Channels

-- the lines after one with the type of tuples, which is after position p
abbrev pub type_from : List ℕ → Lines → ℕ → Result Parsed NetpbmError
type_from bytes l p = and_then (word_from bytes p) (λ w. with_type l (type_of (slice_range bytes w.start w.end)) w.end)

-- the lines at the end of the header: the last has no value
abbrev pub end_from : List ℕ → Lines → ℕ → Result Parsed NetpbmError
end_from bytes l p = if slice_index bytes p == 10 then Ok (record { lines = l; after = p; ended = true }) else Err InvalidHeader

-- the lines after one more, with this keyword, whose value is after position p; a later line replaces an earlier one
unfoldable pub line_from : List ℕ → Keyword → Lines → ℕ → Result Parsed NetpbmError
line_from bytes Width l p = and_then (side_from bytes p) (λ n. Ok (record { lines = record l { width = Some n.value }; after = n.after; ended = false }))
line_from bytes Height l p = and_then (side_from bytes p) (λ n. Ok (record { lines = record l { height = Some n.value }; after = n.after; ended = false }))
line_from bytes Depth l p = and_then (number_from bytes p) (λ n. Ok (record { lines = record l { depth = Some n.value }; after = n.after; ended = false }))
line_from bytes Maximum l p = and_then (bits_from bytes p) (λ n. Ok (record { lines = record l { bits = Some n.value }; after = n.after; ended = false }))
line_from bytes TupleType l p = type_from bytes l p
line_from bytes End l p = end_from bytes l p

abbrev pub line_with : List ℕ → Option Keyword → Lines → ℕ → Result Parsed NetpbmError
line_with bytes (Some k) l p = line_from bytes k l p
line_with bytes None l p = Err InvalidHeader

-- the next line, from position p on
unfoldable pub next_line : List ℕ → Lines → ℕ → Result Parsed NetpbmError
next_line bytes l p = and_then (word_from bytes p) (λ w. line_with bytes (keyword_of (slice_range bytes w.start w.end)) l w.end)

-- the header by at most this number of lines, after those before position p
unfoldable pub lines_from : ℕ → List ℕ → Lines → ℕ → Result Header NetpbmError
lines_from zero bytes l p = Err InvalidHeader
lines_from (suc n) bytes l p = and_then (next_line bytes l p) (λ s. if s.ended then header_by_lines s.lines (s.after + 1) else lines_from n bytes s.lines s.after)

-- no lines
abbrev pub no_lines : Lines
no_lines = record { width = None; height = None; depth = None; bits = None; tuple_type = None }

-- the header of a PAM file, of at most 64 lines without comments
abbrev pub pam_from : List ℕ → ℕ → Result Header NetpbmError
pam_from bytes p = lines_from 64 bytes no_lines p

-- values of lines that were read: sides, and 1 to 16 bits
pub record AreLines (l : Lines) : Type 0 where
  pub wide : IfSome l.width (λ n. is_side n ≡ true)
  pub high : IfSome l.height (λ n. is_side n ≡ true)
  pub some : IfSome l.bits (λ n. 1 ≤ n)
  pub few : IfSome l.bits (λ n. n ≤ 16)
