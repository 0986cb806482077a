-- The profile between the image header and the first frame (ISO/IEC 18181-1, ICC profile: the stream of its bytes).
use Rattle.std.specs.Prelude.{ℕ, ◌+◌, ◌*◌, ◌%◌, ◌==◌, ◌&&◌, ◌||◌, nat_lt, nat_le, if◌then◌else◌, List, [], ◌∷◌, reverse, length, slice_index, codes, Result, Ok, Err}
use Rattle.jxl_icc.specs.Profiles.{icc_of}
use Rattle.jxl_icc.specs.declared.error.ProfileError.{ProfileError}
use Rattle.jxl_icc.specs.declared.error.ProfileError.TheVariants as icc
use Rattle.jxlm_bits.specs.Decoding.{Meaning}
use Rattle.jxlm_bits.specs.ErrorKind.{BadProfile, ErrorKind, NoMemory}
use Rattle.jxlm_bits.specs.Grammar.{Grammar, give, fail, either, from_result, ◌>>=◌}
use Rattle.jxl_image_header.specs.Fields.{long}
use Rattle.jxlm_bits.specs.Tokens.{Tokens, token, coded_tokens}
use Rattle.jxlm_bits.specs.Turns.{chain}

-- the kind of a byte: letters, what numbers are written with, and others by their size
abbrev pub kind_of : ℕ → ℕ
kind_of byte =
    if nat_le 97 byte && nat_le byte 122 || nat_le 65 byte && nat_le byte 90 then 0 else
    if nat_le 48 byte && nat_le byte 57 || (byte == 46) || (byte == 44) then 1 else if byte == 0 then 2 else
    if byte == 1 then 3 else if nat_lt byte 16 then 4 else if byte == 255 then 6 else if nat_lt 240 byte then 5 else 7

-- the context of byte i, by the kinds of the last byte and of the one before it
abbrev pub context_after : ℕ → ℕ → ℕ → ℕ
context_after i last before = if nat_le i 128 then 0 else
    1 + kind_of last + 8 * slice_index (0 ∷ 1 ∷ 2 ∷ 2 ∷ 2 ∷ 3 ∷ 3 ∷ 4 ∷ []) (kind_of before)

-- the context of the byte after these, of which the last is the first in the list
abbrev pub context_of : List ℕ → ℕ
context_of bytes = context_after (length bytes) (slice_index bytes 0) (slice_index bytes 1)

-- one byte more: of a token its 8 lowest bits
abbrev pub one_byte : {S : Type 0} → Meaning S → List ℕ → Tokens S (List ℕ)
one_byte d bytes = token d (context_of bytes) (λ v. give (v % 256 ∷ bytes))

-- The encoded profile: how many bytes it has, at most this many, and these, by a decoder of 41 contexts.
abbrev pub encoded_profile : {S : Type 0} → Meaning S → ℕ → Grammar (List ℕ)
encoded_profile d limit = do
  n ← long >>= λ n. either (nat_le n limit) (give n) (fail (BadProfile (codes "the profile is too long")))
  bytes ← coded_tokens d 41 (chain (one_byte d) n [])
  give (reverse bytes)

-- why encoded bytes have no profile, in words
unfoldable pub icc_kind : ProfileError → ErrorKind
icc_kind icc.TooLong = BadProfile (codes "the profile is too long")
icc_kind icc.Truncated = BadProfile (codes "a truncated command")
icc_kind icc.NumberTooLong = BadProfile (codes "a number of more than nine bytes")
icc_kind icc.DataTruncated = BadProfile (codes "truncated data")
icc_kind icc.UnknownTag = BadProfile (codes "an unknown tag")
icc_kind icc.TagTooLarge = BadProfile (codes "a number of a tag that is too large")
icc_kind icc.UnknownCommand = BadProfile (codes "an unknown command")
icc_kind icc.InvalidWidth = BadProfile (codes "a prediction of values of three bytes")
icc_kind icc.InvalidOrder = BadProfile (codes "a prediction of order 3")
icc_kind icc.InvalidStride = BadProfile (codes "a prediction with an invalid stride")
icc_kind icc.PastSize = BadProfile (codes "a command that passes the end of the profile")
icc_kind icc.UnusedBytes = BadProfile (codes "unused bytes after the profile")
icc_kind icc.ShortOfSize = BadProfile (codes "commands that end before the profile does")
icc_kind icc.OutOfMemory = NoMemory

-- the profile that was decoded, which is not empty, or its error
abbrev pub icc_or_error : Result (List ℕ) ProfileError → Result (List ℕ) ErrorKind
icc_or_error (Ok []) = Err (BadProfile (codes "an empty profile"))
icc_or_error (Ok (byte ∷ bytes)) = Ok (byte ∷ bytes)
icc_or_error (Err error) = Err (icc_kind error)

-- the profile: the one that the encoded bytes have, of at most this many bytes, too
abbrev pub profile : {S : Type 0} → Meaning S → ℕ → Grammar (List ℕ)
profile d limit = encoded_profile d limit >>= λ encoded. from_result (icc_or_error (icc_of limit encoded))
