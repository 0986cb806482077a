-- Words of the header of a netpbm file, with white space and comments between them (netpbm: PGM, PPM, PAM and PFM formats).
use Rattle.std.specs.Prelude.{ℕ, ◌+◌, ◌-◌, ◌*◌, ◌^◌, ◌==◌, ◌&&◌, ◌||◌, not, min, nat_le, List, [], ◌∷◌, length, drop, slice_range, Bool, true, false, if◌then◌else◌, Option, Some, None, Result, Ok, Err}
use Rattle.jxl_netpbm_read.specs.declared.error.NetpbmError.{NetpbmError}
use Rattle.jxl_netpbm_read.specs.declared.error.NetpbmError.TheVariants.{Truncated, InvalidHeader}
use Rattle.jxl_netpbm_read.specs.declared.words.Word.{Word}
use Rattle.jxl_netpbm_read.specs.declared.words.Number.{Number}

-- what follows the first result, if that is no error
abbrev pub and_then : {A B : Type 0} → Result A NetpbmError → (A → Result B NetpbmError) → Result B NetpbmError
and_then (Ok a) f = f a
and_then (Err e) f = Err e

-- white space: a space, a tab, or an end of a line or of a page
abbrev pub is_space : ℕ → Bool
is_space b = (b == 32) || (nat_le 9 b && nat_le b 13)

abbrev pub is_digit : ℕ → Bool
is_digit b = nat_le 48 b && nat_le b 57

-- an end of a line
abbrev pub is_line_end : ℕ → Bool
is_line_end b = (b == 10) || (b == 13)

-- How many bytes of white space and comments a text begins with, inside a comment or not. A comment goes from a number sign
-- to the end of its line.
abbrev pub gap : Bool → List ℕ → ℕ
gap comment [] = 0
gap true (b ∷ bs) = gap (not (is_line_end b)) bs + 1
gap false (b ∷ bs) = if b == 35 then gap true bs + 1 else if is_space b then gap false bs + 1 else 0

-- how many bytes a text has before its first white space
abbrev pub word_length : List ℕ → ℕ
word_length [] = 0
word_length (b ∷ bs) = if is_space b then 0 else word_length bs + 1

-- the next word from position p on, which white space has to follow
unfoldable pub word_from : List ℕ → ℕ → Result Word NetpbmError
word_from bytes p =
    let first = p + gap false (drop p bytes) in
    let end = first + word_length (drop first bytes) in
    if nat_le (length bytes) end then Err Truncated else Ok (record { start = first; end = end })

-- the number that decimal digits write after those of another number, if they are digits
abbrev pub digits_from : ℕ → List ℕ → Option ℕ
digits_from v [] = Some v
digits_from v (d ∷ ds) = if is_digit d then digits_from (v * 10 + (d - 48)) ds else None

-- the number that a word writes; one above 2^32 - 1 counts as that
abbrev pub as_number : Word → Option ℕ → Result Number NetpbmError
as_number w None = Err InvalidHeader
as_number w (Some v) = Ok (record { value = min v (2 ^ 32 - 1); after = w.end })

unfoldable pub number_from : List ℕ → ℕ → Result Number NetpbmError
number_from bytes p = and_then (word_from bytes p) (λ w. as_number w (digits_from 0 (slice_range bytes w.start w.end)))
