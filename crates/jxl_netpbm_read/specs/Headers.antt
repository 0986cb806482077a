-- The headers of netpbm files (netpbm: PGM, PPM, PAM and PFM formats).
use Rattle.std.specs.Prelude.{ℕ, ◌+◌, ◌==◌, ◌&&◌, ◌||◌, not, nat_lt, nat_le, count_by, List, [], ◌∷◌, length, slice_index, slice_range, Bool, true, false, if◌then◌else◌, Option, Some, None, Result, Ok, Err}
use Rattle.std.specs.List.{list_all, list_any}
use Rattle.jxl_netpbm_read.specs.Words.{and_then, is_digit, word_from}
use Rattle.jxl_netpbm_read.specs.Pam.{pam_from}
use Rattle.jxl_netpbm_read.specs.Parts.{bits_from, side_from}
use Rattle.jxl_netpbm_read.specs.declared.error.NetpbmError.{NetpbmError}
use Rattle.jxl_netpbm_read.specs.declared.error.NetpbmError.TheVariants.{InvalidHeader, Magic as NoMagic}
use Rattle.jxl_netpbm_read.specs.declared.header.Header.{Header}
use Rattle.jxl_netpbm_read.specs.declared.header.Scale.{Scale}
use Rattle.jxl_netpbm_read.specs.declared.header.Magic.{Magic}
use Rattle.jxl_netpbm_read.specs.declared.header.Magic.TheVariants.{Plain, Pam, Float}
use Rattle.jxl_netpbm_read.specs.declared.header.Storage.TheVariants.{Floats, Numbers}

-- the formats by the byte after `P`: 5, 6, 7, F and f
abbrev pub magic_of : ℕ → Option Magic
magic_of b =
    if b == 53 then Some (Plain true) else if b == 54 then Some (Plain false) else if b == 55 then Some Pam else
    if b == 70 then Some (Float false) else if b == 102 then Some (Float true) else None

-- PGM and PPM: width, height and maximum; a byte of white space is before the samples
unfoldable pub plain_from : List ℕ → Bool → ℕ → Result Header NetpbmError
plain_from bytes is_grey p =
    and_then (side_from bytes p) (λ w. and_then (side_from bytes w.after) (λ h. and_then (bits_from bytes h.after) (λ n.
    Ok (record { width = w.value; height = h.value; grey = is_grey; alpha = false; storage = Numbers n.value; start = n.after + 1 }))))

-- a sign, and a digit or a point
abbrev pub is_sign : ℕ → Bool
is_sign b = (b == 43) || (b == 45)

abbrev pub is_digit_or_point : ℕ → Bool
is_digit_or_point b = is_digit b || (b == 46)

-- digits, at least one, with at most one point
abbrev pub are_digits : List ℕ → Bool
are_digits bs = list_all is_digit_or_point bs && list_any is_digit bs && nat_le (count_by (λ b. b == 46) bs) 1

-- a decimal number, with a sign or not
abbrev pub is_decimal : List ℕ → Bool
is_decimal [] = false
is_decimal (b ∷ bs) = if is_sign b then are_digits bs else are_digits (b ∷ bs)

-- the scale of floats: by a negative one the least significant byte comes first
unfoldable pub scale_from : List ℕ → ℕ → Result Scale NetpbmError
scale_from bytes p = and_then (word_from bytes p) (λ w.
    if is_decimal (slice_range bytes w.start w.end) then Ok (record { little_endian = (slice_index bytes w.start == 45); after = w.end }) else Err InvalidHeader)

-- PFM: width, height and scale
unfoldable pub float_from : List ℕ → Bool → ℕ → Result Header NetpbmError
float_from bytes is_grey p =
    and_then (side_from bytes p) (λ w. and_then (side_from bytes w.after) (λ h. and_then (scale_from bytes h.after) (λ s.
    Ok (record { width = w.value; height = h.value; grey = is_grey; alpha = false; storage = Floats s.little_endian; start = s.after + 1 }))))

abbrev pub header_after : List ℕ → Option Magic → Result Header NetpbmError
header_after bytes (Some (Plain grey)) = plain_from bytes grey 2
header_after bytes (Some Pam) = pam_from bytes 2
header_after bytes (Some (Float grey)) = float_from bytes grey 2
header_after bytes None = Err NoMagic

-- the header that a file begins with
unfoldable pub header_from : List ℕ → Result Header NetpbmError
header_from bytes =
    if nat_lt (length bytes) 2 || not (slice_index bytes 0 == 80) then Err NoMagic else header_after bytes (magic_of (slice_index bytes 1))
