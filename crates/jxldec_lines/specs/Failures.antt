-- Why the output does not get what is asked for, and the line that says so.
use Rattle.std.specs.Prelude.{◌≡◌, ℕ, List, [], ◌∷◌, ◌++◌, ◌||◌, Bool, true, false, MatchBool, Option, Some, None, if◌then◌else◌, codes}
use Rattle.std.specs.Fmt.{decimal}
use Rattle.std.specs.declared.io.Error.{Error}
use Rattle.jxl_command.specs.Streams.{is_closed, terminal_text}
use Rattle.jxl_command.specs.Shown.{shown_text}
use Rattle.jxl_picture.specs.declared.limits.Limits.{Limits}
use Rattle.jxldec_lines.specs.Reasons.{animation_text, file_text}
use Rattle.jxldec_lines.specs.declared.failures.Lacks.{Lacks}
use Rattle.jxldec_lines.specs.declared.failures.Failure.{Failure}
use Rattle.jxldec_lines.specs.declared.failures.Failure.TheVariants as failures
use Rattle.jxldec_lines.specs.declared.refusals.Refusal.{Refusal}
use Rattle.jxldec_lines.specs.declared.refusals.Refusal.TheVariants.{Terminal, Input, Outputs}

-- a file lacks some of the data that are asked for
abbrev pub has_lack : Lacks → Bool
has_lack lacks = lacks.profile || (lacks.exif || lacks.xmp)

-- a text, if it applies, with the others after it
abbrev pub listed : Bool → List ℕ → List ℕ → List ℕ
listed false text others = others
listed true text [] = text
listed true text (b ∷ others) = text ++ codes ", " ++ b ∷ others

-- which data a file does not have: one after another, between commas
unfoldable pub missing_text : Lacks → List ℕ
missing_text lacks = listed lacks.profile (codes "no colour profile") (listed lacks.exif (codes "no Exif data") (listed lacks.xmp (codes "no XMP data") []))

-- the limits of a picture
unfoldable pub limits_text : Limits → List ℕ
limits_text most =
    codes "(maximum: " ++ (decimal most.pixels ++ (codes " pixels, " ++ (decimal most.channels
    ++ (codes " channels, " ++ (decimal most.bytes ++ codes " bytes of samples)")))))

-- why the output does not get what is asked for, in words; what the system says of its cause is not known, and not among them
unfoldable pub failure_text : Failure → List ℕ
failure_text (failures.Unreadable error) = codes "cannot read"
failure_text failures.Foreign = codes "not a JPEG XL file"
failure_text (failures.File error) = file_text error
failure_text (failures.TooLarge size extra most) =
    codes "a picture above the limits: " ++ (decimal size.width ++ (codes "x" ++ (decimal size.height
    ++ (codes " with " ++ (decimal extra ++ (codes " extra channels " ++ limits_text most))))))
failure_text (failures.Frames error) = animation_text error
failure_text (failures.NoFrame number) = codes "no frame " ++ (decimal number ++ codes "; frames are numbered from 0")
failure_text failures.NoFormat = codes "this format cannot hold the picture; --format text can"
failure_text (failures.Missing lacks) = missing_text lacks
failure_text failures.OutOfMemory = codes "out of memory"
failure_text failures.Ending = codes "no format has this ending; there are .png, .apng, .pgm, .ppm, .pnm, .pam, .pfm and .text"
failure_text (failures.Unwritable error) = codes "cannot write"
failure_text failures.Closed = codes "a pipe that was closed"
failure_text (failures.Unsaved extra error) = codes "cannot write"

-- the error of the system that is its cause, if one is
abbrev pub cause_of : Failure → Option Error
cause_of (failures.Unreadable error) = Some error
cause_of (failures.Unwritable error) = Some error
cause_of (failures.Unsaved extra error) = Some error
cause_of failure = None

-- the output is a closed pipe: nothing is said of that
abbrev pub is_silent : Failure → Bool
is_silent failures.Closed = true
is_silent failure = false

-- why the output cannot be written, by the error of a write
abbrev pub failure_of_write : Error → Failure
failure_of_write error = if is_closed error then failures.Closed else failures.Unwritable error

-- the failure is one of an output, and not of the file
abbrev pub is_of_output : Failure → Bool
is_of_output failures.Ending = true
is_of_output (failures.Unwritable error) = true
is_of_output failures.Closed = true
is_of_output (failures.Unsaved extra error) = true
is_of_output failure = false

-- the output cannot be written; a closed pipe has a failure of its own
abbrev pub IsOfWriting : Failure → Type 0
IsOfWriting (failures.Unwritable error) = is_closed error ≡ false
IsOfWriting failures.Closed = Unit {0}
IsOfWriting failure = ⊥

-- data beside the picture cannot be written
abbrev pub IsOfSaving : Failure → Type 0
IsOfSaving (failures.Unsaved extra error) = Unit {0}
IsOfSaving failure = ⊥

-- the output cannot be written, or it is out of memory for that
abbrev pub IsOfContent : Failure → Type 0
IsOfContent failures.OutOfMemory = Unit {0}
IsOfContent failure = IsOfWriting failure

-- a line of the program about what has this name, in which control characters are written by their codes
abbrev pub line_about : List ℕ → List ℕ → List ℕ
line_about name text = codes "jxldec: " ++ shown_text name ++ codes ": " ++ text ++ codes "\n"

-- the words of the line on a failure of what has this name, before its cause
abbrev pub failure_line : List ℕ → Failure → List ℕ
failure_line name failure = codes "jxldec: " ++ (shown_text name ++ (codes ": " ++ failure_text failure))

-- standard error gets that line; of a closed pipe nothing is said
abbrev pub Reports : List ℕ → Failure → Type 0 → (Option Error → List ℕ → Type 0) → Type 0
Reports name failure Silent Gets = MatchBool (is_silent failure) Silent (Gets (cause_of failure) (failure_line name failure))

-- why the program does not begin: what has this name is one with the input, or with another output; or it is a terminal that was not
-- asked for
abbrev pub refusal_text : Refusal → List ℕ
refusal_text Terminal = terminal_text
refusal_text Input = codes "the input and this output are one file"
refusal_text Outputs = codes "two outputs are one file"

-- the words of the line on that
unfoldable pub refusal_line : List ℕ → Refusal → List ℕ
refusal_line name refusal = codes "jxldec: " ++ (shown_text name ++ (codes ": " ++ refusal_text refusal))
