-- The commands of the main content (ISO/IEC 18181-1, ICC profile: main content).
use Rattle.std.specs.Prelude.{◌≡◌, ℕ, ◌+◌, ◌-◌, ◌*◌, ◌/◌, ◌%◌, ◌<◌, ◌≤◌, ◌^◌, List, [], ◌∷◌, ◌++◌, length, slice_index, slice_range, codes, nat_lt, nat_le, ◌==◌, ◌&&◌, ◌⊎◌, Bool, false, if◌then◌else◌, Option, Some, None, Result, Ok, Err}
use Rattle.jxl_icc.specs.Errors.{and_then}
use Rattle.jxl_icc.specs.Growth.{extend}
use Rattle.jxl_icc.specs.Linear.{transposed_byte, predicted_byte}
use Rattle.jxl_icc.specs.Numbers.{number_from, number_if}
use Rattle.jxl_icc.specs.declared.error.ProfileError.{ProfileError}
use Rattle.jxl_icc.specs.declared.error.ProfileError.TheVariants.{Truncated, InvalidWidth, InvalidOrder, InvalidStride, UnknownCommand, DataTruncated, PastSize}
use Rattle.jxl_icc.specs.declared.commands.Command.{Command}
use Rattle.jxl_icc.specs.declared.commands.Command.TheVariants.{Literal, Transposed, Predicted, Xyz, Kind}
use Rattle.jxl_icc.specs.declared.commands.Parsed.{Parsed}

-- the command of code 1, 2 or 3, with its count
abbrev pub by_count : ℕ → ℕ → Command
by_count code n = if code == 2 then Transposed 2 n else if code == 3 then Transposed 4 n else Literal n

-- The prediction whose flags are at p: bits 0 and 1 are the width less 1, bits 2 and 3 the order, bit 4 says that the stride
-- follows, which else is the width; then follows the count.
unfoldable pub prediction_at : List ℕ → ℕ → ℕ → Result Parsed ProfileError
prediction_at bytes end p =
    let flags = slice_index bytes p in
    let width = flags % 4 + 1 in
    if nat_le end p then Err Truncated else if width == 3 then Err InvalidWidth else
    if flags / 4 % 4 == 3 then Err InvalidOrder else
    and_then (number_if bytes end (flags / 16 % 2 == 1) width (p + 1)) (λ stride.
    if nat_lt stride.value width then Err InvalidStride else
    and_then (number_from bytes end stride.after) (λ count. Ok (record {
      command = Predicted (record { width = width; order = flags / 4 % 4; stride = stride.value }) count.value;
      after = count.after;
    })))

-- the command that begins at p, and where it ends: literal bytes, tables of 2 and 4 rows, predictions, XYZ and types
unfoldable pub command_at : List ℕ → ℕ → ℕ → Result Parsed ProfileError
command_at bytes end p =
    let code = slice_index bytes p in
    if nat_le 1 code && nat_le code 3 then and_then (number_from bytes end (p + 1)) (λ count.
    Ok (record { command = by_count code count.value; after = count.after })) else
    if code == 4 then prediction_at bytes end (p + 1) else
    if code == 10 then Ok (record { command = Xyz; after = p + 1 }) else
    if nat_le 16 code && nat_le code 23 then Ok (record { command = Kind (code - 16); after = p + 1 }) else Err UnknownCommand

-- a command as it is parsed: widths of 1, 2 or 4, strides from the width on, types below 8
abbrev pub IsPossible : Command → Type 0
IsPossible (Literal n) = n < 2 ^ 63
IsPossible (Transposed width n) = ((width ≡ 2) ⊎ (width ≡ 4)) × (n < 2 ^ 63)
IsPossible (Predicted by n) = ((by.width ≡ 1) ⊎ ((by.width ≡ 2) ⊎ (by.width ≡ 4))) × (by.width ≤ by.stride) × (n < 2 ^ 63)
IsPossible Xyz = Unit {0}
IsPossible (Kind k) = k < 8

-- how many bytes of the data a command takes, and how many it adds to the profile
abbrev pub needs : Command → ℕ
needs (Literal n) = n
needs (Transposed width n) = n
needs (Predicted by n) = n
needs Xyz = 12
needs (Kind k) = 0

abbrev pub makes : Command → ℕ
makes (Literal n) = n
makes (Transposed width n) = n
makes (Predicted by n) = n
makes Xyz = 20
makes (Kind k) = 8

-- a prediction with a stride of a quarter of the profile so far, or more
abbrev pub is_early : Command → ℕ → Bool
is_early (Literal n) length = false
is_early (Transposed width n) length = false
is_early (Predicted by n) length = nat_le length (4 * by.stride)
is_early Xyz length = false
is_early (Kind k) length = false

-- why a command may not come after this length of a profile of this size, with so much of the data left
abbrev pub misfit : Command → ℕ → ℕ → ℕ → Option ProfileError
misfit command left length size = if is_early command length then Some InvalidStride else
    if nat_lt left (needs command) then Some DataTruncated else
    if nat_lt (size - length) (makes command) then Some PastSize else None

-- the name of a type, with the four zeros after it
abbrev pub typed : ℕ → List ℕ
typed k = slice_range (codes "XYZ desctextmlucparacurvsf32gbd ") (4 * k) (4 * k + 4) ++ 0 ∷ 0 ∷ 0 ∷ 0 ∷ []

-- the profile so far with what a command makes of the data from position d on
abbrev pub output_after : List ℕ → ℕ → List ℕ → Command → List ℕ
output_after bytes d out (Literal n) = out ++ slice_range bytes d (d + n)
output_after bytes d out (Transposed width n) = extend (transposed_byte bytes d n width) out n
output_after bytes d out (Predicted by n) = extend (predicted_byte bytes d n by (length out)) out n
output_after bytes d out Xyz = out ++ typed 0 ++ slice_range bytes d (d + 12)
output_after bytes d out (Kind k) = out ++ typed k
