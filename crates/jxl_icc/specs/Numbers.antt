-- Numbers of the stream and of the profile (ISO/IEC 18181-1, ICC profile: Varint, and the big-endian numbers of ISO 15076-1).
use Rattle.std.specs.Prelude.{ℕ, zero, suc, ◌+◌, ◌-◌, ◌*◌, ◌/◌, ◌%◌, List, [], ◌∷◌, slice_index, nat_lt, nat_le, Bool, if◌then◌else◌, Result, Ok, Err}
use Rattle.jxl_icc.specs.Errors.{and_then}
use Rattle.jxl_icc.specs.declared.error.ProfileError.{ProfileError}
use Rattle.jxl_icc.specs.declared.error.ProfileError.TheVariants.{NumberTooLong, Truncated}
use Rattle.jxl_icc.specs.declared.numbers.Number.{Number}

-- the number from p on, of at most this many bytes before `end`: seven bits of each byte, the least significant first; a byte
-- from 128 on says that another follows
unfoldable pub number_within : List ℕ → ℕ → ℕ → ℕ → Result Number ProfileError
number_within bytes end zero p = Err NumberTooLong
number_within bytes end (suc most) p = if nat_le end p then Err Truncated else
    if nat_lt (slice_index bytes p) 128 then Ok (record { value = slice_index bytes p; after = p + 1 }) else
    and_then (number_within bytes end most (p + 1)) (λ high.
    Ok (record { value = slice_index bytes p - 128 + 128 * high.value; after = high.after }))

-- a number has at most nine bytes
unfoldable pub number_from : List ℕ → ℕ → ℕ → Result Number ProfileError
number_from bytes end p = number_within bytes end 9 p

-- the number from p on, or this value if none is present
unfoldable pub number_if : List ℕ → ℕ → Bool → ℕ → ℕ → Result Number ProfileError
number_if bytes end present absent p =
    if present then number_from bytes end p else Ok (record { value = absent; after = p })

-- the four bytes of a number, the most significant first
abbrev pub word_bytes : ℕ → List ℕ
word_bytes v = v / 16777216 % 256 ∷ v / 65536 % 256 ∷ v / 256 % 256 ∷ v % 256 ∷ []
