-- Numbers in the input, with a decoder's errors (ISO/IEC 18181-1, notation of fields).
use Rattle.std.specs.Prelude.{ℕ, zero, suc, ◌+◌, ◌*◌, ◌^◌, List, length, Bool, if◌then◌else◌, nat_lt, ◌==◌, Result, Ok, Err}
use Rattle.jxlm_bits.specs.Bits.{bits_at}
use Rattle.jxlm_bits.specs.Decoding.{Found}
use Rattle.jxlm_bits.specs.ErrorKind.{◌>>=◌}
use Rattle.jxlm_bits.specs.declared.decoder.DecoderError.{DecoderError}
use Rattle.jxlm_bits.specs.declared.decoder.DecoderError.TheVariants.{UnexpectedEof}

-- the number of n bits at position p
unfoldable pub number_at : List ℕ → ℕ → ℕ → Result (Found ℕ) DecoderError
number_at bytes p n =
    if nat_lt (8 * length bytes) (p + n) then Err UnexpectedEof else Ok (record { value = bits_at bytes p n; position = p + n })

-- the width of a number, in four bits or three
abbrev pub width_at : List ℕ → ℕ → Bool → Result (Found ℕ) DecoderError
width_at bytes p wide = if wide then number_at bytes p 4 else number_at bytes p 3

-- a number whose width comes first: 0, or 2 to the width and more
unfoldable pub var_len_at : List ℕ → ℕ → Bool → Result (Found ℕ) DecoderError
var_len_at bytes p wide = do
  some ← number_at bytes p 1
  if some.value == 0 then Ok (record { value = 0; position = some.position }) else (do
    width ← width_at bytes some.position wide
    rest ← number_at bytes width.position width.value
    Ok (record { value = 2 ^ width.value + rest.value; position = rest.position }))

-- how many bits a number below 16 takes
abbrev pub bit_width_of : ℕ → ℕ
bit_width_of v = if v == 0 then 0 else if nat_lt v 2 then 1 else if nat_lt v 4 then 2 else if nat_lt v 8 then 3 else 4

-- the least width from w on, at most n more, that a number fits
abbrev pub width_from : ℕ → ℕ → ℕ → ℕ
width_from zero w v = w
width_from (suc n) w v = if nat_lt v (2 ^ w) then w else width_from n (w + 1) v

-- how many bits a number below 2 to the 15 takes
abbrev pub width_of : ℕ → ℕ
width_of v = width_from 15 0 v
